use Rattle.std.proofs.Common.{take}
use Rattle.dpl_bars.specs.Alone.{ReachTo, AddsTouching}
use Rattle.dpl_bars.proofs.alone.add_touching.Given as goal

abbrev pub invariant-loop-bar : goal.invariant-loop-bar
invariant-loop-bar l = AddsTouching (take l.bar-index l.bars) l.beside l.fn.others.items l.others.items × ReachTo l.near.items l.prefix.passed l.prefix.reach
