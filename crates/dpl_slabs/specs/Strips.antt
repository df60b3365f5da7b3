-- Rectangles in strips of rows.
use Rattle.std.specs.Prelude.{◌⊎◌, ◌↔◌, ◌<ℤ◌, List}
use Rattle.std.specs.List.{Contains}
use Rattle.dpl_spec_split.specs.declared.Pt.{Pt}
use Rattle.dpl_spec_split.specs.declared.Rect.{Rect}
use Rattle.dpl_spec_split.specs.Squares.{Region, Covers}
use Rattle.dpl_spec_split.specs.Slabs.{IsCanonical}
use Rattle.dpl_spec_split.specs.Loops.{farthest, AreRectsWithin}
use Rattle.dpl_order.specs.Orders.{CornersRise}

-- a row lies between each of the low ones and each of the high ones
abbrev pub LieBelow : List Rect → List Rect → Type 0
LieBelow low high = (r s : Rect) → Contains low r → Contains high s → r.y1 <ℤ s.y0

-- the slabs of a set of a strip's squares were added
pub record AddsStrip (a : Region) (old new strip : List Rect) : Type 0 where
  pub canonical : IsCanonical new
  pub covers : (p : Pt) → Covers new p ↔ (Covers old p ⊎ a p)
  pub within : AreRectsWithin farthest old → AreRectsWithin farthest new
  pub below : (others : List Rect) → LieBelow old others → LieBelow strip others → LieBelow new others

-- slabs of some of the rectangles, and the others, which lie above
pub record AreStripsOf (rects slabs rest : List Rect) : Type 0 where
  pub canonical : IsCanonical slabs
  pub covers : (p : Pt) → (Covers slabs p ⊎ Covers rest p) ↔ Covers rects p
  pub within : AreRectsWithin farthest slabs
  pub rest_within : AreRectsWithin farthest rest
  pub rise : CornersRise rest
  pub below : LieBelow slabs rest
