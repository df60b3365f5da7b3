use Rattle.std.proofs.Common.{◌≡◌, ◌≢◌, List, ℕ, [], ◌∷◌}
use Rattle.std.specs.Prelude.{codes}
use Rattle.std.specs.Fmt.{signed_decimal}
use Rattle.dpl_spec_split.specs.declared.Pt.{Pt}
use Rattle.dpl_cert.specs.declared.cert.NearLine.{NearLine}
use Rattle.dpl_cert.specs.declared.cert.NearLine.TheVariants.{Pair, Mark, Anchors}
use Rattle.dpl_cert.specs.Grammar.{IsNear, IsPoint, near_words}
use Rattle.dpl_parse.proofs.Numerals.{given_none}
use Rattle.dpl_parse.proofs.words.Words.pair.Goals as goal

second_none : (old a : List (List ℕ)) (x y : _) → old ≡ signed_decimal x ∷ signed_decimal y ∷ a
    → ((p : Pt) (t : List (List ℕ)) → IsPoint p → a ≢ signed_decimal p.x ∷ signed_decimal p.y ∷ t) → (p : NearLine) → IsNear p → codes "near" ∷ old ≡ near_words 0 p → ⊥
second_none old a x y h none (Pair from to) f e = none to [] f.1 cc
second_none old a x y h none (Mark at) f e = absurd cc
second_none old a x y h none Anchors f e = absurd cc

pub returns-in_err-to-clause-none : goal.returns-in_err-to-clause-none
returns-in_err-to-clause-none c =
    given_none {P = (p : NearLine) → IsNear p → codes "near" ∷ c.args.self.now ≢ near_words 0 p} _
    (second_none c.args.self.now _ c.in_ok-from.from.x c.in_ok-from.from.y c.in_ok-from.ensures.found.1 c.in_err-to.ensures.none)
