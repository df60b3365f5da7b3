use Rattle.std.proofs.Common.{◌≤◌, arith, subst, sym}
use Rattle.dpl_spec_split.specs.declared.Spacing.{Spacing}
use Rattle.dpl_shade.proofs.ShadingLaws.{pair-at, pairs-all, pairs-more, pairs-none}
use Rattle.dpl_shade.proofs.shades.add_pairs.Goals as goal

pub loop-pair-init : goal.loop-pair-init
loop-pair-init c = pairs-none c.args.items.now c.args.pairs.now c.args.shades.now c.requires.sound

pub add_both-requires-clause-corner : goal.add_both-requires-clause-corner
add_both-requires-clause-corner c = subst (λ (s : Spacing). s.corner ≤ s.rule) (sym c.loop-pair.invariant.more.spacing) c.requires.corner

pub add_both-requires-clause-pair : goal.add_both-requires-clause-pair
add_both-requires-clause-pair c = pair-at c.args.items.now c.args.pairs.now c.loop-pair.pair-index _ _ c.loop-pair.shades c.loop-pair.invariant.more c.requires.pairs c.loop-pair-test.true

pub add_both-requires-clause-sound : goal.add_both-requires-clause-sound
add_both-requires-clause-sound c = c.loop-pair.invariant.sound

pub loop-pair-preserved : goal.loop-pair-preserved
loop-pair-preserved c = pairs-more c.args.items.now c.args.pairs.now c.loop-pair.pair-index _ _ c.loop-pair.shades _ c.loop-pair-test.true c.loop-pair.invariant
    c.in_ok-add_both.ensures.sound c.in_ok-add_both.ensures.more c.in_ok-add_both.ensures.handles

pub returns-clause-sound : goal.returns-clause-sound
returns-clause-sound c = c.loop-pair.invariant.sound

pub returns-clause-more : goal.returns-clause-more
returns-clause-more c = c.loop-pair.invariant.more

pub returns-clause-handles : goal.returns-clause-handles
returns-clause-handles c = pairs-all c.args.items.now c.args.pairs.now c.loop-pair.pair-index _ c.loop-pair.shades (omega arith) c.loop-pair.invariant
