use Rattle.std.proofs.Common.{◌≡◌, ◌≢◌, List, ℕ, ◌∷◌, Option}
use Rattle.std.specs.Prelude.{codes}
use Rattle.dpl_parse.specs.declared.heads.Second.{Second}
use Rattle.dpl_parse.specs.declared.heads.Second.TheVariants.{Rule, Refused}
use Rattle.dpl_parse.specs.Heads.{IsSecond, IsCornerOf, second_words}
use Rattle.dpl_cert.specs.Grammar.{IsRule, corner_words}
use Rattle.std.specs.Fmt.{decimal}
use Rattle.std.proofs.Common.{arith}
use Rattle.std.proofs.lemmas.Fmt.{decimal_injective}
use Rattle.dpl_parse.proofs.Numerals.{given_none}
use Rattle.dpl_parse.proofs.words.Words.rule_line.Goals as goal

overlap_none : (old a b : List (List ℕ)) (r : ℕ) → old ≡ decimal r ∷ a → a ≡ codes "overlap" ∷ b
    → ((n : ℕ) (t : List (List ℕ)) → IsRule n → b ≢ decimal n ∷ t) → (s : Second) → IsSecond s → codes "rule" ∷ old ≡ second_words 0 s → ⊥
overlap_none old a b r h k none (Rule x m o) f e = none m (corner_words o) f.1 cc
overlap_none old a b r h k none (Refused name at) f e = absurd cc

corner_none : (old a b rest : List (List ℕ)) (r m : ℕ) → IsRule r → old ≡ decimal r ∷ a → a ≡ codes "overlap" ∷ b → b ≡ decimal m ∷ rest
    → ((o : Option ℕ) → IsCornerOf r o → rest ≢ corner_words o) → (s : Second) → IsSecond s → codes "rule" ∷ old ≡ second_words 0 s → ⊥
corner_none old a b rest r m is h k l none (Rule x y o) f e =
    let digits : decimal r ≡ decimal x = cc in
    let equal : r ≡ x = decimal_injective r x (omega (arith, is)) (omega (arith, f.0)) digits in
    none o (rw equal f.2) cc
corner_none old a b rest r m is h k l none (Refused name at) f e = absurd cc

pub returns-in_err-overlap-clause-none : goal.returns-in_err-overlap-clause-none
returns-in_err-overlap-clause-none c =
    given_none {P = (s : Second) → IsSecond s → codes "rule" ∷ c.args.self.now ≢ second_words 0 s} _
    (overlap_none c.args.self.now _ _ c.in_ok-rule.rule c.in_ok-rule.ensures.found.1 c.in_ok-literal.ensures.found
    c.in_err-overlap.ensures.none)

pub returns-in_err-corner-clause-none : goal.returns-in_err-corner-clause-none
returns-in_err-corner-clause-none c =
    given_none {P = (s : Second) → IsSecond s → codes "rule" ∷ c.args.self.now ≢ second_words 0 s} _
    (corner_none c.args.self.now _ _ _ c.in_ok-rule.rule c.in_ok-overlap.overlap c.in_ok-rule.ensures.found.0 c.in_ok-rule.ensures.found.1
    c.in_ok-literal.ensures.found c.in_ok-overlap.ensures.found.1 c.in_err-corner.ensures.none)
