use Rattle.std.proofs.Common.{◌≡◌, take}
use Rattle.dpl_session.proofs.cells.cells_in.Given as goal

abbrev pub invariant-loop-tile : goal.invariant-loop-tile
invariant-loop-tile l = l.cells.items ≡ take l.tile l.plan.cells
