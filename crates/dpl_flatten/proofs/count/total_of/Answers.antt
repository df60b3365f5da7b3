use Rattle.std.proofs.Common.{get_or}
use Rattle.dpl_spec_format.specs.Tree.{elements_at}
use Rattle.dpl_spec_layout.specs.Points.{points_by}
use Rattle.dpl_flatten.proofs.TotalLaws.{total_more}
use Rattle.dpl_flatten.proofs.count.total_of.Goals as goal

pub loop-element-preserved : goal.loop-element-preserved
loop-element-preserved c =
    total_more (points_by c.args.lib.now c.args.chosen (λ j. get_or c.args.totals.now j 0)) c.elements-element-items.result.now
    (elements_at c.args.lib.now c.args.structure) c.loop-element.element-index _ c.loop-element.total c.element_points.result
    c.min-total.result
    c.elements-element-items.ensures.same
    c.loop-element-test.true
    c.element_points.ensures.value
    c.min-total.ensures
    c.loop-element.invariant
