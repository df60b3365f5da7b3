use Rattle.std.proofs.Common.{arith}
use Rattle.dpl_shade.proofs.EndLaws.{part-all, part-from, part-more, part-none}
use Rattle.dpl_shade.proofs.ends.mark_part.Goals as goal

pub loop-n-init : goal.loop-n-init
loop-n-init c = part-none c.args.items.now c.args.start c.args.ends.now c.requires.sound

pub mark_item-near-requires-clause-part : goal.mark_item-near-requires-clause-part
mark_item-near-requires-clause-part c = part-from c.args.items.now c.args.start c.args.end c.loop-n.n c.requires.part (omega arith) c.loop-n-test.true

pub mark_item-near-requires-clause-sound : goal.mark_item-near-requires-clause-sound
mark_item-near-requires-clause-sound c = c.loop-n.invariant.sound

pub loop-n-preserved : goal.loop-n-preserved
loop-n-preserved c =
    part-more c.args.items.now c.args.start c.loop-n.n c.args.ends.now c.loop-n.ends _ c.loop-n.invariant
    c.mark_item-near.ensures.sound c.mark_item-near.ensures.more c.mark_item-near.ensures.all

pub returns-clause-sound : goal.returns-clause-sound
returns-clause-sound c = c.loop-n.invariant.sound

pub returns-clause-more : goal.returns-clause-more
returns-clause-more c = c.loop-n.invariant.more

pub returns-clause-all : goal.returns-clause-all
returns-clause-all c = part-all c.args.items.now c.args.start c.args.end c.loop-n.n _ c.loop-n.ends c.loop-n-test.false c.loop-n.invariant
