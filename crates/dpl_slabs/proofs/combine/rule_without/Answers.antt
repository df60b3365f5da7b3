use Rattle.std.proofs.Common.{arith}
use Rattle.dpl_slabs.proofs.SetLaws.{told-minus, told-without_none}
use Rattle.dpl_slabs.proofs.combine.rule_without.Goals as goal

pub returns-then-is_empty : goal.returns-then-is_empty
returns-then-is_empty c rects p = told-without_none rects c.args.holes.now p (let h = c.is_empty.ensures in grind arith)

pub returns : goal.returns
returns c rects p = told-minus rects c.args.holes.now p
