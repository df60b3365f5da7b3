-- Disjoint sets of squares.
use Rattle.std.specs.Prelude.{List}
use Rattle.std.specs.List.{All, AllPairs, Any}
use Rattle.dpl_spec_split.specs.declared.Pt.{Pt}
use Rattle.dpl_spec_split.specs.declared.Rect.{Rect}
use Rattle.dpl_spec_split.specs.Squares.{Region, Covers}
use Rattle.dpl_spec_split.specs.Slabs.{IsCanonical}
use Rattle.dpl_spec_split.specs.Loops.{farthest, AreRectsWithin}

-- the two have no square in common
abbrev pub AreApart : List Rect → List Rect → Type 0
AreApart s t = (p : Pt) → Covers s p → Covers t p → ⊥

-- canonical slabs of sets within the range of a layer, no two of which have a square in common
pub record AreParts (parts : List (List Rect)) : Type 0 where
  pub apart : AllPairs AreApart parts
  pub canonical : All IsCanonical parts
  pub within : All (AreRectsWithin farthest) parts

-- the squares of all parts
abbrev pub union_of : List (List Rect) → Region
union_of parts p = Any (λ part. Covers part p) parts
