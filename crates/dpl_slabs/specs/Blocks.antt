-- Rectangles in blocks of columns. Those of a block are given transposed.
use Rattle.std.specs.Prelude.{◌⊎◌, ◌↔◌, ◌<ℤ◌, List}
use Rattle.std.specs.List.{Contains}
use Rattle.dpl_spec_split.specs.declared.Pt.{Pt}
use Rattle.dpl_spec_split.specs.declared.Rect.{Rect}
use Rattle.dpl_spec_split.specs.Squares.{Region, Covers, SameSquares}
use Rattle.dpl_spec_split.specs.Loops.{farthest, AreRectsWithin}
use Rattle.dpl_spec_split.specs.Zones.{transposed}
use Rattle.dpl_order.specs.Orders.{CornersRise}
use Rattle.dpl_slabs.specs.Scattered.{AreScattered}

-- the canonical slabs of a set, in any order
pub record AreScatteredOf (a : Region) (slabs : List Rect) : Type 0 where
  pub scattered : AreScattered slabs
  pub covers : SameSquares (Covers slabs) a

-- a column lies between each of the slabs and each of the rectangles of blocks
abbrev pub LieLeft : List Rect → List Rect → Type 0
LieLeft slabs block = (r s : Rect) → Contains slabs r → Contains block s → r.x1 <ℤ s.y0

-- a square of a slab, or of a rectangle in a block
abbrev pub EitherCovers : List Rect → List Rect → Region
EitherCovers slabs rest p = Covers slabs p ⊎ transposed (Covers rest) p

-- the slabs of a block's squares were added
pub record AddsBlock (old new block : List Rect) : Type 0 where
  pub scattered : AreScattered new
  pub covers : (p : Pt) → Covers new p ↔ EitherCovers old block p
  pub left : (others : List Rect) → LieLeft old others → ((r s : Rect) → Contains block r → Contains others s → r.y1 <ℤ s.y0) → LieLeft new others

-- the slabs of some of a set's squares, and rectangles of the others in blocks, which lie right of them
pub record AreBlocksOf (a : Region) (slabs rest : List Rect) : Type 0 where
  pub scattered : AreScattered slabs
  pub covers : (p : Pt) → EitherCovers slabs rest p ↔ a p
  pub rest_within : AreRectsWithin farthest rest
  pub rise : CornersRise rest
  pub left : LieLeft slabs rest
