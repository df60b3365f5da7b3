-- The loops of shapes.
use Rattle.std.specs.Prelude.{◌≡◌, ◌⊎◌, ◌↔◌, List}
use Rattle.std.specs.List.{All}
use Rattle.std.specs.Int.{int_max}
use Rattle.dpl_spec_split.specs.declared.Pt.{Pt}
use Rattle.dpl_spec_split.specs.declared.Rect.{Rect}
use Rattle.dpl_spec_split.specs.Squares.{Covers, Has}
use Rattle.dpl_spec_split.specs.Loops.{LoopCovers, SomeLoopCovers, IsRectilinear, ArePointsWithin, AreLoopsWithin, IsRectWithin, AreRectsWithin, farthest}

-- the rectangle with its upper right corner raised to where it isn't below or left of the other
pub record IsRaised (r b : Rect) : Type 0 where
  pub left : b.x0 ≡ r.x0
  pub low : b.y0 ≡ r.y0
  pub right : b.x1 ≡ int_max r.x0 r.x1
  pub high : b.y1 ≡ int_max r.y0 r.y1

-- the loop has the rectangle's squares and edges parallel to the axes, and lies in range where the rectangle does
pub record IsLoopOf (r : Rect) (ps : List Pt) : Type 0 where
  pub covers : (s : Pt) → LoopCovers ps s ↔ Has r s
  pub straight : IsRectilinear ps
  pub within : IsRectWithin farthest r → ArePointsWithin farthest ps

-- Loops with the squares of the rectangles were added. All have edges parallel to the axes where those before do, and lie in range where these and the rectangles do.
pub record AreAdded (rects : List Rect) (old new : List (List Pt)) : Type 0 where
  pub covers : (s : Pt) → SomeLoopCovers new s ↔ (Covers rects s ⊎ SomeLoopCovers old s)
  pub straight : All IsRectilinear old → All IsRectilinear new
  pub within : AreRectsWithin farthest rects → AreLoopsWithin farthest old → AreLoopsWithin farthest new
