use Rattle.dpl_spec_split.specs.Squares.{Covers}
use Rattle.dpl_nearest.proofs.NearLaws.{least_whole}
use Rattle.dpl_nearest.proofs.FewLaws.{least-one-more}
use Rattle.dpl_nearest.proofs.few.least_of_few.Goals as goal

pub loop-r-preserved : goal.loop-r-preserved
loop-r-preserved c = least-one-more c.args.spacing c.args.rects.now (Covers c.args.others.now) c.loop-r.r-index _ c.loop-r.best
    c.least_of_one.result c.first_of-best.result c.loop-r-test.true c.loop-r.invariant c.least_of_one.ensures c.first_of-best.ensures

pub returns : goal.returns
returns c = least_whole c.args.spacing c.args.rects.now (Covers c.args.others.now) c.loop-r.r-index c.loop-r.best c.loop-r-test.false c.loop-r.invariant
