use Rattle.std.specs.Prelude.{◌-◌, ◌^◌, ◌≤◌}
use Rattle.dpl_tile.specs.Tiles.{IsDoubled}
use Rattle.dpl_tile.proofs.least.side_for.Given as goal

abbrev pub invariant-loop-side : goal.invariant-loop-side
invariant-loop-side l = record { some : 1 ≤ l.side; doubled : IsDoubled l.fn.tile l.side }

abbrev pub decreases-loop-side : goal.decreases-loop-side
decreases-loop-side l = 2 ^ 32 - l.side
