use Rattle.std.proofs.Common.{◌≡◌, ◌≢◌, ℕ, List, [], ◌∷◌, Option, Some, None}
use Rattle.std.specs.Fmt.{decimal}
use Rattle.dpl_cert.specs.Grammar.{IsNumber}
use Rattle.dpl_parse.specs.Heads.{AreStitches, stitches_left}
use Rattle.dpl_parse.proofs.Leading.{after}
use Rattle.dpl_parse.proofs.Numerals.{given_none}
use Rattle.dpl_parse.proofs.words.Words.stitches.Goals as goal

-- no number stands behind the word
no_number : (words a : List (List ℕ)) (word : List ℕ) → words ≡ word ∷ a → ((n : ℕ) (t : List (List ℕ)) → IsNumber n → a ≢ decimal n ∷ t)
    → (o : Option ℕ) → AreStitches o → words ≡ stitches_left o → ⊥
no_number words a word e none None is same = absurd cc
no_number words a word e none (Some x) is same = none x _ is (after e same)

-- more stands behind the number
no_end : (words a b : List (List ℕ)) (word digits : List ℕ) → words ≡ word ∷ a → a ≡ digits ∷ b → b ≢ []
    → (o : Option ℕ) → AreStitches o → words ≡ stitches_left o → ⊥
no_end words a b word digits e f more None is same = absurd cc
no_end words a b word digits e f more (Some x) is same = more (after f (after e same))

pub returns-in_err-k-clause-none : goal.returns-in_err-k-clause-none
returns-in_err-k-clause-none c =
    given_none {P = (o : Option ℕ) → AreStitches o → c.args.self.now ≢ stitches_left o} _
    (no_number c.args.self.now _ _ c.in-Some.ensures.found c.in_err-k.ensures.none)

pub returns-in_err-end-clause-none : goal.returns-in_err-end-clause-none
returns-in_err-end-clause-none c =
    given_none {P = (o : Option ℕ) → AreStitches o → c.args.self.now ≢ stitches_left o} _
    (no_end c.args.self.now _ _ _ _ c.in-Some.ensures.found c.in_ok-k.ensures.found.1 c.in_err-end.ensures.none)
