-- The least pair of near squares of two sets.
use Rattle.std.specs.Prelude.{◌≡◌, ◌⊎◌}
use Rattle.dpl_spec_split.specs.declared.Spacing.{Spacing}
use Rattle.dpl_spec_split.specs.declared.Pt.{Pt}
use Rattle.dpl_spec_split.specs.Squares.{Region, Precedes, Near}

-- two squares of the two sets that are near
pub record AreNearAt (spacing : Spacing) (a b : Region) (p q : Pt) : Type 0 where
  pub from : a p
  pub to : b q
  pub close : Near spacing p q

-- the least pair of near squares, by the first square and then by the second
pub record IsNearestPair (spacing : Spacing) (a b : Region) (p q : Pt) : Type 0 where
  pub are : AreNearAt spacing a b p q
  pub least : (r s : Pt) → AreNearAt spacing a b r s → Precedes p r ⊎ ((p ≡ r) × ((q ≡ s) ⊎ Precedes q s))
