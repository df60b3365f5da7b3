use Rattle.std.proofs.Common.{◌≡◌, ◌≢◌, ◌++◌, List, ℕ}
use Rattle.dpl_spec_split.specs.declared.Rect.{Rect}
use Rattle.dpl_cert.specs.declared.cert.StitchLine.{StitchLine}
use Rattle.dpl_cert.specs.Grammar.{IsStitch, rect_words, stitch_words}
use Rattle.dpl_parse.proofs.Leading.{after}
use Rattle.dpl_parse.proofs.Numerals.{given_none}
use Rattle.dpl_parse.proofs.rows.StitchLineRow.read.Goals as goal

abbrev Unread : List (List ℕ) → ℕ → Type 0
Unread w n = (x : StitchLine) → IsStitch x → w ≢ stitch_words n x

after_rect : {w a t : List (List ℕ)} (r s : Rect) → w ≡ rect_words r ++ a → w ≡ rect_words s ++ t → a ≡ t
after_rect r s p q = cc

pub returns-in_err-literal-clause-none : goal.returns-in_err-literal-clause-none
returns-in_err-literal-clause-none c = given_none {P = Unread c.args.words.now c.args._n} _ (λ x f e. c.in_err-literal.ensures.none _ e)

pub returns-in_err-rect-clause-none : goal.returns-in_err-rect-clause-none
returns-in_err-rect-clause-none c =
    given_none {P = Unread c.args.words.now c.args._n} _ (λ x f e. c.in_err-rect.ensures.none x.rect _ f.rect (after c.in_ok-literal.ensures.found e))

pub returns-in_err-p-clause-none : goal.returns-in_err-p-clause-none
returns-in_err-p-clause-none c =
    given_none {P = Unread c.args.words.now c.args._n} _ (λ x f e. c.in_err-p.ensures.none x.p _ f.p
    (after_rect c.in_ok-rect.rect x.rect c.in_ok-rect.ensures.found.1 (after c.in_ok-literal.ensures.found e)))

pub returns-in_err-q-clause-none : goal.returns-in_err-q-clause-none
returns-in_err-q-clause-none c =
    given_none {P = Unread c.args.words.now c.args._n} _ (λ x f e. c.in_err-q.ensures.none x.q _ f.q
    (after c.in_ok-p.ensures.found.1 (after_rect c.in_ok-rect.rect x.rect c.in_ok-rect.ensures.found.1 (after c.in_ok-literal.ensures.found e))))

pub returns-in_err-end-clause-none : goal.returns-in_err-end-clause-none
returns-in_err-end-clause-none c =
    given_none {P = Unread c.args.words.now c.args._n} _ (λ x f e. c.in_err-end.ensures.none (after c.in_ok-q.ensures.found.1
    (after c.in_ok-p.ensures.found.1 (after_rect c.in_ok-rect.rect x.rect c.in_ok-rect.ensures.found.1 (after c.in_ok-literal.ensures.found e)))))

pub returns-clause-found : goal.returns-clause-found
returns-clause-found c =
    let r = c.in_ok-rect.ensures.found in
    let p = c.in_ok-p.ensures.found in
    let q = c.in_ok-q.ensures.found in
    (record { rect = r.0; p = p.0; q = q.0 }, rw (c.in_ok-literal.ensures.found, r.1, p.1, q.1, c.in_ok-end.ensures.found))
