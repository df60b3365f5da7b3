use Rattle.dpl_view.proofs.RankLaws.{noted-more}
use Rattle.dpl_view.proofs.layers.note_ranks.Goals as goal

pub loop-element-preserved : goal.loop-element-preserved
loop-element-preserved c = noted-more c.args.elements.now c.loop-element.element-index _ c.args.ranks.now.items c.loop-element.ranks.items c.note_rank.new.ranks.items
    c.loop-element-test.true c.in_ok-note_rank.ensures.ranks c.in_ok-note_rank.ensures.narrow c.loop-element.invariant
