use Rattle.std.proofs.Common.{rules}
use Rattle.dpl_check.proofs.Around.{around-more, around-none, around-within, around-all}
use Rattle.dpl_check.proofs.stitch.bounds_of.Goals as goal

pub loop-stitch-preserved : goal.loop-stitch-preserved
loop-stitch-preserved c = around-more c.args.stitches.now c.loop-stitch.stitch-index _ c.loop-stitch.bounds c.round_one-bounds.result
    c.requires c.loop-stitch-test.true c.loop-stitch.invariant c.round_one-bounds.ensures

pub returns-clause-none : goal.returns-clause-none
returns-clause-none c = around-none c.args.stitches.now c.loop-stitch.stitch-index (search rules) c.loop-stitch.bounds c.loop-stitch.invariant

pub returns-clause-within : goal.returns-clause-within
returns-clause-within c = around-within c.args.stitches.now c.loop-stitch.stitch-index (search rules) c.loop-stitch.bounds c.loop-stitch.invariant

pub returns-clause-all : goal.returns-clause-all
returns-clause-all c = around-all c.args.stitches.now c.loop-stitch.stitch-index (search rules) c.loop-stitch.bounds c.loop-stitch.invariant
