-- What a walk keeps of the loops that it gathers.
use Rattle.std.specs.Prelude.{◌≡◌, ℕ, ◌⊎◌, ◌↔◌, List, Some}
use Rattle.std.specs.List.{Contains}
use Rattle.dpl_spec_split.specs.declared.Pt.{Pt}
use Rattle.dpl_spec_split.specs.Squares.{Covers}
use Rattle.dpl_spec_split.specs.Loops.{LoopCovers, SomeLoopCovers, ArePointsWithin, AreLoopsWithin, AreRectsWithin, farthest}
use Rattle.dpl_walk.specs.Least.{earlier}
use Rattle.dpl_walk.specs.declared.cells.Outline.{Outline}
use Rattle.dpl_walk.specs.declared.cells.Cell.{Cell}
use Rattle.dpl_walk.specs.declared.gathered.Gathered.{Gathered}
use Rattle.dpl_walk.specs.Walk.{Gathers, HasFarPoint, IsWalk}

-- some rectangle or loop that was gathered has the square
abbrev pub KeptCovers : Gathered → Pt → Type 0
KeptCovers g s = Covers g.rects.items s ⊎ SomeLoopCovers g.loops.items s

-- some of the loops that lie in range has the square
abbrev pub SomeLoopInRangeCovers : List (List Pt) → Pt → Type 0
SomeLoopInRangeCovers loops s = (ps : List Pt) × Contains loops ps × ArePointsWithin farthest ps × LoopCovers ps s

-- the loop was kept, as a rectangle or as it is
pub record IsAdded (ps : List Pt) (old new : Gathered) : Type 0 where
  pub covers : (s : Pt) → KeptCovers new s ↔ (KeptCovers old s ⊎ LoopCovers ps s)
  pub rects : AreRectsWithin farthest old.rects.items → AreRectsWithin farthest new.rects.items
  pub among : (qs : List Pt) → Contains new.loops.items qs → Contains old.loops.items qs ⊎ (qs ≡ ps)

-- the loop was kept, or goes too far, and the offset of its element was noted
abbrev pub IsKept : List Pt → ℕ → Gathered → Gathered → Type 0
IsKept ps at old new =
    (ArePointsWithin farthest ps × (new.far ≡ old.far) × IsAdded ps old new)
    ⊎ (HasFarPoint ps × (new.far ≡ earlier old.far (Some at)) × (new.rects.items ≡ old.rects.items) × (new.loops.items ≡ old.loops.items))

-- What was kept lies in range. Rectangles and loops cover what those loops cover that were gathered and lie in range, and the loops are among these.
pub record AreKept (all : List (List Pt)) (g : Gathered) : Type 0 where
  pub covers : (s : Pt) → KeptCovers g s ↔ SomeLoopInRangeCovers all s
  pub rects : AreRectsWithin farthest g.rects.items
  pub loops : AreLoopsWithin farthest g.loops.items
  pub among : (ps : List Pt) → Contains g.loops.items ps → Contains all ps

-- the outlines, placed by f, were gathered with all loops before them, and kept
pub record Keeps (outlines : List Outline) (f : Pt → Pt) (old new : Gathered) : Type 0 where
  pub keeps : (all : List (List Pt)) → AreKept all old → (more : List (List Pt)) × Gathers outlines f all more old.far new.far × AreKept more new

-- what was kept of the loops that structure top shows
abbrev pub AreWalked : List Cell → ℕ → Gathered → Type 0
AreWalked cells top g = (all : List (List Pt)) × IsWalk cells top all g.far × AreKept all g
