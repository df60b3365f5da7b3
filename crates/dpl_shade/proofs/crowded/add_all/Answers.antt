use Rattle.dpl_shade.proofs.CrowdLaws.{dead-from, to-all, to-dead, to-more, to-none, to-same}
use Rattle.dpl_shade.proofs.crowded.add_all.Goals as goal
use Rattle.dpl_shade.proofs.crowded.add_all.Goals.{then-items-m+in_ok-add_shade, else-items-m}

pub loop-m-preserved : goal.loop-m-preserved
loop-m-preserved c = elim c.if-items-m.branch [
  | then-items-m+in_ok-add_shade w ↦ rw w.shades-is (to-more c.args.items.now c.args.n c.loop-m.m c.args.shades.now c.loop-m.shades _ c.loop-m.invariant
      w.in_ok-add_shade.ensures.sound w.in_ok-add_shade.ensures.more w.in_ok-add_shade.ensures.handles)
  | else-items-m w ↦ rw w.shades-is (to-same c.args.items.now c.args.n c.loop-m.m c.args.shades.now c.loop-m.shades w.if-items-m.false c.loop-m.invariant)
]

pub loop-m-init : goal.loop-m-init
loop-m-init c = to-none c.args.items.now c.args.n c.args.shades.now c.requires.sound

pub returns-then-index-clause-sound : goal.returns-then-index-clause-sound
returns-then-index-clause-sound c = c.loop-m.invariant.kept.sound

pub returns-then-index-clause-more : goal.returns-then-index-clause-more
returns-then-index-clause-more c = c.loop-m.invariant.kept.more

pub returns-then-index-clause-handles : goal.returns-then-index-clause-handles
returns-then-index-clause-handles c = to-dead c.args.items.now c.args.n c.loop-m.shades
    (dead-from c.args.items.now c.loop-m.shades c.args.n _ c.loop-m.invariant.kept.sound c.requires.first c.index.ensures c.if-index.true)

pub add_shade-requires-clause-corner : goal.add_shade-requires-clause-corner
add_shade-requires-clause-corner c = rw c.loop-m.invariant.kept.more.spacing c.requires.corner

pub add_shade-requires-clause-within : goal.add_shade-requires-clause-within
add_shade-requires-clause-within c = c.requires.within

pub add_shade-requires-clause-sound : goal.add_shade-requires-clause-sound
add_shade-requires-clause-sound c = c.loop-m.invariant.kept.sound

pub returns-clause-sound : goal.returns-clause-sound
returns-clause-sound c = c.loop-m.invariant.kept.sound

pub returns-clause-more : goal.returns-clause-more
returns-clause-more c = c.loop-m.invariant.kept.more

pub returns-clause-handles : goal.returns-clause-handles
returns-clause-handles c = to-all c.args.items.now c.args.n c.loop-m.m c.args.shades.now c.loop-m.shades c.loop-m-test.false c.loop-m.invariant
