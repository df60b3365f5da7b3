use Rattle.std.proofs.Common.{◌≢◌, List, ℕ, refl, arith}
use Rattle.std.proofs.lemmas.Fmt.{decimal_injective}
use Rattle.dpl_cert.specs.declared.cert.PieceLine.{PieceLine}
use Rattle.dpl_cert.specs.Grammar.{IsPiece, piece_words}
use Rattle.dpl_parse.proofs.Leading.{after, before}
use Rattle.dpl_parse.proofs.Numerals.{given_none}
use Rattle.dpl_parse.proofs.rows.PieceLineRow.read.Goals as goal

abbrev Unread : List (List ℕ) → ℕ → Type 0
Unread w n = (x : PieceLine) → IsPiece x → w ≢ piece_words n x

pub returns-in_err-literal-clause-none : goal.returns-in_err-literal-clause-none
returns-in_err-literal-clause-none c = given_none {P = Unread c.args.words.now c.args.n} _ (λ x f e. c.in_err-literal.ensures.none _ e)

pub returns-in_err-number-clause-none : goal.returns-in_err-number-clause-none
returns-in_err-number-clause-none c =
    given_none {P = Unread c.args.words.now c.args.n} _ (λ x f e.
    c.in_err-number.ensures.none c.args.n _ (omega (arith, c.ranges.n)) (after c.in_ok-literal.ensures.found e))

pub returns-then-number-n-clause-none : goal.returns-then-number-n-clause-none
returns-then-number-n-clause-none c = λ x f e.
    let b = c.in_ok-number.ensures.found in
    c.if-number-n.true
    (decimal_injective c.in_ok-number.number c.args.n b.0 (omega (arith, c.ranges.n)) (before b.1 (after c.in_ok-literal.ensures.found e)))

pub returns-in_err-b-clause-none : goal.returns-in_err-b-clause-none
returns-in_err-b-clause-none c =
    given_none {P = Unread c.args.words.now c.args.n} _ (λ x f e.
    c.in_err-b.ensures.none x.b _ (after c.in_ok-number.ensures.found.1 (after c.in_ok-literal.ensures.found e)))

pub returns-in_err-key-clause-none : goal.returns-in_err-key-clause-none
returns-in_err-key-clause-none c =
    given_none {P = Unread c.args.words.now c.args.n} _ (λ x f e. c.in_err-key.ensures.none x.key _ f
    (after c.in_ok-b.ensures.found (after c.in_ok-number.ensures.found.1 (after c.in_ok-literal.ensures.found e))))

pub returns-in_err-end-clause-none : goal.returns-in_err-end-clause-none
returns-in_err-end-clause-none c =
    given_none {P = Unread c.args.words.now c.args.n} _ (λ x f e. c.in_err-end.ensures.none (after refl (after c.in_ok-key.ensures.found.1
    (after c.in_ok-b.ensures.found (after c.in_ok-number.ensures.found.1 (after c.in_ok-literal.ensures.found e))))))
