use Rattle.std.proofs.Common.{◌-◌}
use Rattle.std.specs.List.{All}
use Rattle.dpl_slabs.specs.Made.{IsBlock}
use Rattle.dpl_slabs.proofs.ahead.blocks_from.Given as goal

abbrev pub invariant-loop-next : goal.invariant-loop-next
invariant-loop-next l = All (IsBlock l.rects) l.blocks.items

abbrev pub decreases-loop-next : goal.decreases-loop-next
decreases-loop-next l = l.end - l.next
