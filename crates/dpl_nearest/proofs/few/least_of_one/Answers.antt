use Rattle.dpl_spec_split.specs.Squares.{Has}
use Rattle.dpl_nearest.proofs.FewLaws.{least-other-more, least-other-whole, others-first}
use Rattle.dpl_nearest.proofs.few.least_of_one.Goals as goal

pub loop-other-init : goal.loop-other-init
loop-other-init c = others-first c.args.spacing (Has c.args.r.now) c.args.others.now

pub loop-other-preserved : goal.loop-other-preserved
loop-other-preserved c = least-other-more c.args.spacing (Has c.args.r.now) c.args.others.now c.loop-other.other-index _ c.loop-other.best
    c.least_beside.result c.first_of-best.result c.loop-other-test.true c.loop-other.invariant c.least_beside.ensures c.first_of-best.ensures

pub returns : goal.returns
returns c = least-other-whole c.args.spacing (Has c.args.r.now) c.args.others.now c.loop-other.other-index c.loop-other.best c.loop-other-test.false c.loop-other.invariant
