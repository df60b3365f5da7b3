-- What is left once all edges are passed.
use Rattle.std.specs.Prelude.{◌⊎◌, ◌↔◌, ℤ, ◌≤ℤ◌, ◌<ℤ◌, List}
use Rattle.dpl_spec_split.specs.declared.Pt.{Pt}
use Rattle.dpl_spec_split.specs.declared.Rect.{Rect}
use Rattle.dpl_spec_split.specs.Squares.{Covers}
use Rattle.dpl_sweep.specs.declared.bands.Bands.{Bands}
use Rattle.dpl_order.specs.Pieces.{AreApart, EndBefore}
use Rattle.dpl_sweep.specs.Rows.{run_at}

-- the square is one of the run of its row, from low up to but not high
pub record IsOfRun (low high : ℤ) (t : Bands) (p : Pt) : Type 0 where
  pub over : low ≤ℤ p.y
  pub under : p.y <ℤ high
  pub from : (run_at t p.y).from ≤ℤ p.x
  pub to : p.x <ℤ (run_at t p.y).at

-- the runs of the rows from low up to but not high are put down as pieces
pub record PutsDown (low high : ℤ) (t : Bands) (old new : List Rect) : Type 0 where
  pub covers : (p : Pt) → Covers new p ↔ (Covers old p ⊎ IsOfRun low high t p)
  pub outside : (y x : ℤ) → (y <ℤ low) ⊎ (high ≤ℤ y) → EndBefore old y x → EndBefore new y x
  pub apart : ((y : ℤ) → low ≤ℤ y → y <ℤ high → EndBefore old y (run_at t y).from) → AreApart old → AreApart new
