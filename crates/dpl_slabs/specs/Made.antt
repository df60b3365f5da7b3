-- Pieces of slices, and slabs of blocks and strips, that are made before their turn.
use Rattle.std.specs.Prelude.{ℕ, ◌≤◌, List, take, drop}
use Rattle.dpl_spec_split.specs.declared.Rect.{Rect}
use Rattle.dpl_spec_split.specs.Slabs.{AreSlabsOf}
use Rattle.dpl_spec_split.specs.Squares.{Covers}
use Rattle.dpl_slabs.specs.declared.ahead.Block.{Block}
use Rattle.dpl_slabs.specs.declared.made.Slice.{Slice}
use Rattle.dpl_slabs.specs.declared.swept.Swept.{Swept}
use Rattle.dpl_slabs.specs.Cells.{transposed_rects}
use Rattle.dpl_slabs.specs.Slices.{InRows, Without, ArePiecesOf}
use Rattle.dpl_slabs.specs.Strips.{AreStripsOf}

-- pieces of the squares that rectangles have and no hole has in the rows of a slice
abbrev pub IsSlice : List Rect → List Rect → Slice → Type 0
IsSlice rects holes s = ArePiecesOf (InRows s.low s.high (Without rects holes)) s.pieces.items

-- the slabs of a block's rectangles, which are given transposed
abbrev pub IsBlock : List Rect → Block → Type 0
IsBlock rects b = AreSlabsOf (Covers (transposed_rects (take b.count (drop b.start rects)))) b.slabs.items

-- the same, unless the block begins before a place
abbrev pub IsBlockFrom : ℕ → List Rect → Block → Type 0
IsBlockFrom n rects b = n ≤ b.start → IsBlock rects b

-- slabs of the rectangles from one place on up to another, from which on all others lie above them
abbrev pub IsSwept : List Rect → Swept → Type 0
IsSwept rects s = AreStripsOf (drop s.start rects) s.slabs.items (drop s.end rects)
