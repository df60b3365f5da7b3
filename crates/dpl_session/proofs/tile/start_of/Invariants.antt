use Rattle.std.proofs.Common.{◌-◌, ◌<◌, ◌≤◌, ℕ, length, get_or}
use Rattle.dpl_spec_split.specs.Slabs.{Before}
use Rattle.dpl_session.specs.declared.tile.Tile.{Tile}
use Rattle.dpl_session.proofs.tile.start_of.Given as goal

abbrev pub invariant-loop-low : goal.invariant-loop-low
invariant-loop-low l = record {
  order : l.low ≤ l.high;
  within : l.high ≤ length l.tiles;
  under : (k : ℕ) (t : Tile) → k < l.low → k < length l.tiles → Before (get_or l.tiles k t).cell l.cell;
  over : (k : ℕ) (t : Tile) → l.high ≤ k → k < length l.tiles → Before (get_or l.tiles k t).cell l.cell → ⊥;
}

abbrev pub decreases-loop-low : goal.decreases-loop-low
decreases-loop-low l = l.high - l.low
