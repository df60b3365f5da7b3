use Rattle.std.proofs.Common.{arith}
use Rattle.dpl_shade.proofs.EndLaws.{part-here, part-last, to-more, to-start}
use Rattle.dpl_shade.proofs.ends.part_end.Goals as goal

pub loop-k-init : goal.loop-k-init
loop-k-init c = to-start c.args.items.now c.args.start

pub loop-k-preserved : goal.loop-k-preserved
loop-k-preserved c = to-more c.args.items.now c.args.start c.loop-k.k c.loop-k.invariant (omega arith)

pub returns-then-items-k : goal.returns-then-items-k
returns-then-items-k c = part-here c.args.items.now c.args.start c.loop-k.k c.loop-k.invariant (omega arith) (omega arith) (λ inside e. c.if-items-k.true e)

pub returns : goal.returns
returns c = part-last c.args.items.now c.args.start c.loop-k.k c.loop-k.invariant c.requires c.loop-k-test.false
