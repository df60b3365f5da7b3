use Rattle.dpl_shade.proofs.CrowdLaws.{dead-from, up-dead, up-more}
use Rattle.dpl_shade.proofs.crowded.add_alive.Goals as goal
use Rattle.dpl_shade.proofs.crowded.add_alive.Goals.{then-not-index+in_ok-short_id+in_ok-add_all, else-not-index}

pub loop-n-preserved : goal.loop-n-preserved
loop-n-preserved c = elim c.if-not-index.branch [
  | then-not-index+in_ok-short_id+in_ok-add_all w ↦ rw w.shades-is (up-more c.args.items.now c.loop-n.n c.args.shades.now c.loop-n.shades _ c.loop-n.invariant
      w.in_ok-add_all.ensures.sound w.in_ok-add_all.ensures.more (rw w.in_ok-short_id.ensures.same at w.in_ok-add_all.ensures.handles))
  | else-not-index w ↦ rw w.shades-is (up-dead c.args.items.now c.loop-n.n c.args.shades.now c.loop-n.shades c.loop-n.invariant
      (dead-from c.args.items.now c.loop-n.shades c.loop-n.n c.index.result.now c.loop-n.invariant.kept.sound c.loop-n-test.true c.index.ensures w.if-not-index.false))
]
