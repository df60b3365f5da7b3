use Rattle.std.proofs.Common.{take}
use Rattle.dpl_upward.specs.Active.{AddsReaching}
use Rattle.dpl_upward.proofs.active.add_reaching.Given as goal

abbrev pub invariant-loop-r : goal.invariant-loop-r
invariant-loop-r l = AddsReaching l.low (take l.r-index l.rects) l.initial.found.items l.found.items
