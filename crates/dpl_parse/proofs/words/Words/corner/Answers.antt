use Rattle.std.proofs.Common.{rules, ◌≡◌, ◌≢◌, ℕ, ◌^◌, ◌<◌, ◌≤◌, List, [], ◌∷◌, Option, Some, None, arith}
use Rattle.std.specs.Prelude.{codes}
use Rattle.std.specs.Fmt.{decimal}
use Rattle.std.proofs.lemmas.Fmt.{decimal_injective}
use Rattle.dpl_cert.specs.Grammar.{corner_words, IsNumber}
use Rattle.dpl_parse.specs.Heads.{IsCornerOf}
use Rattle.dpl_parse.proofs.Leading.{after}
use Rattle.dpl_parse.proofs.Numerals.{given_none}
use Rattle.dpl_parse.proofs.words.Words.corner.Goals as goal

-- a corner rule that is named is the one
named : (words a b : List (List ℕ)) (word : List ℕ) (rule c : ℕ) → rule < 2 ^ 64 → IsNumber c → word ≡ codes "corner" → words ≡ word ∷ a → a ≡ decimal c ∷ b
    → ((1 ≤ c) × (c ≤ rule) → ⊥) → (o : Option ℕ) → IsCornerOf rule o → words ≡ corner_words o → ⊥
named words a b word rule c small fits w e f bad None is same = absurd cc
named words a b word rule c small fits w e f bad (Some x) is same =
    let digits : decimal c ≡ decimal x = cc in
    let equal = decimal_injective c x fits (omega (arith, small, is)) digits in
    bad (omega (arith, equal, is), omega (arith, equal, is))

pub returns-then-corner-lt1-clause-none : goal.returns-then-corner-lt1-clause-none
returns-then-corner-lt1-clause-none c =
    let word = c.in-Some.ensures.found in
    let number = c.in_ok-corner.ensures.found in
    named c.args.self.now _ _ c.in-Some.word.now c.args.rule c.in_ok-corner.corner (omega (arith, c.ranges.rule)) number.0 (search rules) word number.1
    (λ h. omega (arith, h.0, c.if-corner-lt1.true))

pub returns-then-corner-rule-clause-none : goal.returns-then-corner-rule-clause-none
returns-then-corner-rule-clause-none c =
    let word = c.in-Some.ensures.found in
    let number = c.in_ok-corner.ensures.found in
    named c.args.self.now _ _ c.in-Some.word.now c.args.rule c.in_ok-corner.corner (omega (arith, c.ranges.rule)) number.0 (search rules) word number.1
    (λ h. omega (arith, h.1, c.if-corner-rule.true))

-- no number stands behind the word
no_number : (words a : List (List ℕ)) (word : List ℕ) (rule : ℕ) → rule < 2 ^ 64 → words ≡ word ∷ a
    → ((n : ℕ) (t : List (List ℕ)) → IsNumber n → a ≢ decimal n ∷ t) → (o : Option ℕ) → IsCornerOf rule o → words ≡ corner_words o → ⊥
no_number words a word rule small e none None is same = absurd cc
no_number words a word rule small e none (Some x) is same = none x _ (omega (arith, small, is)) (after e same)

-- more stands behind the number
no_end : (words a b : List (List ℕ)) (word digits : List ℕ) (rule : ℕ) → words ≡ word ∷ a → a ≡ digits ∷ b → b ≢ []
    → (o : Option ℕ) → IsCornerOf rule o → words ≡ corner_words o → ⊥
no_end words a b word digits rule e f more None is same = absurd cc
no_end words a b word digits rule e f more (Some x) is same = more (after f (after e same))

pub returns-in_err-corner-clause-none : goal.returns-in_err-corner-clause-none
returns-in_err-corner-clause-none c =
    given_none {P = (o : Option ℕ) → IsCornerOf c.args.rule o → c.args.self.now ≢ corner_words o} _
    (no_number c.args.self.now _ _ c.args.rule (omega (arith, c.ranges.rule)) c.in-Some.ensures.found c.in_err-corner.ensures.none)

pub returns-in_err-end-clause-none : goal.returns-in_err-end-clause-none
returns-in_err-end-clause-none c =
    given_none {P = (o : Option ℕ) → IsCornerOf c.args.rule o → c.args.self.now ≢ corner_words o} _
    (no_end c.args.self.now _ _ _ _ c.args.rule c.in-Some.ensures.found c.in_ok-corner.ensures.found.1 c.in_err-end.ensures.none)
