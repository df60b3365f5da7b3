use Rattle.dpl_tree.specs.declared.owners.Owners.TheVariants.{All as Everyone}
use Rattle.dpl_nearest.specs.Search.{ItemCovers}
use Rattle.dpl_nearest.proofs.NearLaws.{least_more, least_whole}
use Rattle.dpl_nearest.proofs.least.least_in_tree.Goals as goal

pub loop-r-preserved : goal.loop-r-preserved
loop-r-preserved c = least_more c.args.spacing c.args.rects.now (ItemCovers Everyone c.args.others.now) c.loop-r.r-index _ c.loop-r.best
    c.improved-best.result c.loop-r-test.true c.loop-r.invariant c.improved-best.ensures

pub returns : goal.returns
returns c = least_whole c.args.spacing c.args.rects.now (ItemCovers Everyone c.args.others.now) c.loop-r.r-index c.loop-r.best c.loop-r-test.false c.loop-r.invariant
