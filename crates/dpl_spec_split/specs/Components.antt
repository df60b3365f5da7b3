-- Touching components of a set of squares.
use Rattle.std.specs.Prelude.{List}
use Rattle.std.specs.List.{All, AllPairs, Any}
use Rattle.dpl_spec_split.specs.declared.Pt.{Pt}
use Rattle.dpl_spec_split.specs.declared.Rect.{Rect}
use Rattle.dpl_spec_split.specs.Squares.{Region, SameSquares, Precedes, IsLeast, Touch, Covers}
use Rattle.dpl_spec_split.specs.Slabs.{IsCanonical}

-- squares of the set lead from one to the other, each touching the next
pub data Linked (a : Region) : Pt → Pt → Type 0 where
  here : {p : Pt} → a p → Linked a p p
  on : {p q r : Pt} → a p → Touch p q → Linked a q r → Linked a p r

-- the touching component of a square
abbrev pub component : Region → Pt → Region
component a p q = Linked a p q

-- the least square of one precedes that of the other
pub record ComesFirst (s t : List Rect) : Type 0 where
  pub first : Pt
  pub second : Pt
  pub first_is : IsLeast (Covers s) first
  pub second_is : IsLeast (Covers t) second
  pub precedes : Precedes first second

-- the components of a set, each by its canonical slabs, by least square
pub record AreComponents (a : Region) (parts : List (List Rect)) : Type 0 where
  pub canonical : All IsCanonical parts
  pub together : SameSquares (λ p. Any (λ part. Covers part p) parts) a
  pub whole : All (λ part. (p : Pt) × a p × SameSquares (Covers part) (component a p)) parts
  pub ordered : AllPairs ComesFirst parts
