-- Edges that begin and end at few rows, band by band.
use Rattle.std.specs.Prelude.{ℕ, ◌+◌, ◌⊎◌, ◌↔◌, ℤ, ◌≤ℤ◌, ◌<ℤ◌, List, length}
use Rattle.dpl_spec_split.specs.declared.Pt.{Pt}
use Rattle.dpl_spec_split.specs.declared.Rect.{Rect}
use Rattle.dpl_spec_split.specs.Squares.{Covers}
use Rattle.dpl_sweep.specs.declared.edge.Edge.{Edge}
use Rattle.dpl_sweep.specs.declared.edge.Rule.{Rule}
use Rattle.dpl_sweep.specs.declared.run.Run.{Run}
use Rattle.dpl_sweep.specs.declared.bands.Bands.{One}
use Rattle.dpl_sweep.specs.Edges.{Told}
use Rattle.dpl_sweep.specs.Passes.{AreLeft}
use Rattle.dpl_order.specs.Pieces.{AreApart, EndBefore}
use Rattle.dpl_sweep.specs.Rows.{AreRows, IsSmall}
use Rattle.dpl_sweep.specs.Sweeping.{AreSwept, Sweeps}

-- the edge is beside no row below low, nor from top on
pub record IsWithin (low top : ℤ) (e : Edge) : Type 0 where
  pub from : low ≤ℤ e.y0
  pub to : e.y1 ≤ℤ top

-- the edge begins or ends at no row between the two
pub record EndsOutside (low high : ℤ) (e : Edge) : Type 0 where
  pub begins : (e.y0 ≤ℤ low) ⊎ (high ≤ℤ e.y0)
  pub ends : (e.y1 ≤ℤ low) ⊎ (high ≤ℤ e.y1)

-- the pieces have changed in the rows from low up to but not high alone
pub record LeavesRest (low high : ℤ) (old new : List Rect) : Type 0 where
  pub covers : (p : Pt) → (p.y <ℤ low) ⊎ (high ≤ℤ p.y) → Covers new p ↔ Covers old p
  pub ends : (y x : ℤ) → (y <ℤ low) ⊎ (high ≤ℤ y) → EndBefore old y x → EndBefore new y x

-- what a step past the edge e, behind so many others, does to the run of the rows from low up to but not high, and to the pieces
pub record PassesBand (rule : Rule) (e : Edge) (low high : ℤ) (count : ℕ) (run after : Run) (old new : List Rect) : Type 0 where
  pub sweeps : Sweeps rule e low high (One run) (One after) old new
  pub rows : AreRows low high e.x (One after)
  pub sums : IsSmall (count + 1) (One after)
  pub rest : LeavesRest low high old new

-- the run and the pieces after the edges, of which none begins or ends between the two rows
pub record IsBandPassed (rule : Rule) (es : List Edge) (low high : ℤ) (start : Run) (old new : List Rect) (run : Run) : Type 0 where
  pub rows : (x : ℤ) → start.at ≤ℤ x → AreLeft es x → AreRows low high x (One run)
  pub sums : IsSmall (length es) (One run)
  pub swept : AreSwept rule es low high new (One run)
  pub rest : LeavesRest low high old new
  pub apart : AreApart new

-- the pieces are those of the rows below row
pub record AreDone (rule : Rule) (es : List Edge) (row : ℤ) (pieces : List Rect) : Type 0 where
  pub covers : (p : Pt) → p.y <ℤ row → Covers pieces p ↔ Told rule es p
  pub above : (y x : ℤ) → row ≤ℤ y → EndBefore pieces y x
  pub apart : AreApart pieces
