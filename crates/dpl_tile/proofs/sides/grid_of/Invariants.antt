use Rattle.std.proofs.Common.{◌≡◌, ◌-◌, ◌^◌}
use Rattle.dpl_tile.specs.Kept.{IsSound}
use Rattle.dpl_tile.proofs.TileLaws.{IsDoubledAtNeed}
use Rattle.dpl_tile.proofs.sides.grid_of.Given as goal

abbrev pub invariant-loop-grid : goal.invariant-loop-grid
invariant-loop-grid l =
    record {
      left : l.grid.x ≡ l.bounds.x0;
      low : l.grid.y ≡ l.bounds.y0;
      sound : IsSound l.grid;
      doubled : IsDoubledAtNeed l.parts l.tile l.grid;
    }

abbrev pub decreases-loop-grid : goal.decreases-loop-grid
decreases-loop-grid l = 2 ^ 33 - l.grid.side
