use Rattle.std.proofs.Common.{◌≢◌, List, ℕ}
use Rattle.dpl_cert.specs.declared.cert.Gain.{Gain}
use Rattle.dpl_cert.specs.Grammar.{IsGain, gain_words}
use Rattle.dpl_parse.proofs.Leading.{after}
use Rattle.dpl_parse.proofs.Numerals.{given_none}
use Rattle.dpl_parse.proofs.rows.GainRow.read.Goals as goal

abbrev Unread : List (List ℕ) → ℕ → Type 0
Unread w n = (x : Gain) → IsGain x → w ≢ gain_words n x

pub returns-in_err-literal-clause-none : goal.returns-in_err-literal-clause-none
returns-in_err-literal-clause-none c = given_none {P = Unread c.args.words.now c.args._n} _ (λ x f e. c.in_err-literal.ensures.none _ e)

pub returns-in_err-piece-clause-none : goal.returns-in_err-piece-clause-none
returns-in_err-piece-clause-none c =
    given_none {P = Unread c.args.words.now c.args._n} _ (λ x f e. c.in_err-piece.ensures.none x.piece _ f.piece (after c.in_ok-literal.ensures.found e))

pub returns-in_err-d-clause-none : goal.returns-in_err-d-clause-none
returns-in_err-d-clause-none c =
    given_none {P = Unread c.args.words.now c.args._n} _ (λ x f e.
    c.in_err-d.ensures.none x.d _ f.d (after c.in_ok-piece.ensures.found.1 (after c.in_ok-literal.ensures.found e)))

pub returns-in_err-s-clause-none : goal.returns-in_err-s-clause-none
returns-in_err-s-clause-none c =
    given_none {P = Unread c.args.words.now c.args._n} _ (λ x f e.
    c.in_err-s.ensures.none x.s _ f.s (after c.in_ok-d.ensures.found.1 (after c.in_ok-piece.ensures.found.1 (after c.in_ok-literal.ensures.found e))))

pub returns-in_err-end-clause-none : goal.returns-in_err-end-clause-none
returns-in_err-end-clause-none c =
    given_none {P = Unread c.args.words.now c.args._n} _ (λ x f e. c.in_err-end.ensures.none
    (after c.in_ok-s.ensures.found.1 (after c.in_ok-d.ensures.found.1 (after c.in_ok-piece.ensures.found.1 (after c.in_ok-literal.ensures.found e)))))

pub returns-clause-found : goal.returns-clause-found
returns-clause-found c =
    let p = c.in_ok-piece.ensures.found in
    let d = c.in_ok-d.ensures.found in
    let s = c.in_ok-s.ensures.found in
    (record { piece = p.0; d = d.0; s = s.0 }, rw (c.in_ok-literal.ensures.found, p.1, d.1, s.1, c.in_ok-end.ensures.found))
