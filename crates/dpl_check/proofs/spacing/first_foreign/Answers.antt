use Rattle.std.proofs.Common.{rules, arith}
use Rattle.dpl_check.proofs.Owning.{foreign-none, foreign-more, foreign-all}
use Rattle.dpl_check.proofs.spacing.first_foreign.Goals as goal

pub loop-i-init : goal.loop-i-init
loop-i-init c = foreign-none c.args.spacing c.args.rects.now c.args.owners.now c.args.tree.now

pub loop-i-preserved : goal.loop-i-preserved
loop-i-preserved c = foreign-more c.args.spacing c.args.rects.now c.args.owners.now c.args.tree.now c.loop-i.i _ _ c.loop-i.best
    c.improved-best.result c.loop-i-test.true (search rules) (search rules) c.loop-i.invariant c.improved-best.ensures

pub returns : goal.returns
returns c = foreign-all c.args.spacing c.args.rects.now c.args.owners.now c.args.tree.now c.loop-i.i c.loop-i.best (omega arith) c.loop-i.invariant
