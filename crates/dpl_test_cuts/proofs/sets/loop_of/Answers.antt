use Rattle.std.proofs.Common.{ℕ, inl, inr, List, [], ◌∷◌, ◌++◌, subst}
use Rattle.std.proofs.lemmas.List.Elements.{Contains-push_cases}
use Rattle.dpl_spec_split.specs.declared.Pt.{Pt}
use Rattle.dpl_spec_split.specs.Loops.{farthest, IsPointWithin, ArePointsWithin}
use Rattle.dpl_test_cuts.proofs.sets.loop_of.Goals as goal

points-more : (bound : ℕ) (ps : List Pt) (p : Pt) → ArePointsWithin bound ps → IsPointWithin bound p → ArePointsWithin bound (ps ++ p ∷ [])
points-more bound ps p w v q q_in = elim (Contains-push_cases ps p q q_in) [ inl old ↦ w q old | inr same ↦ subst (IsPointWithin bound) same v ]

pub loop-corner-preserved : goal.loop-corner-preserved
loop-corner-preserved c = rw c.in_ok-push.ensures.items (points-more farthest c.loop-corner.points.items c.point.result c.loop-corner.invariant c.point.ensures)
