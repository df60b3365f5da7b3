use Rattle.std.proofs.Common.{◌≤◌, ap, arith, subst, sym, ◌∙◌}
use Rattle.dpl_spec_split.specs.declared.Spacing.{Spacing}
use Rattle.dpl_shade.proofs.ShadingLaws.{strip-pairs}
use Rattle.dpl_shade.proofs.DealtLaws.{to-all, to-more, to-none, to-past}
use Rattle.dpl_shade.proofs.dealt.add_dealt.Goals as goal
use Rattle.dpl_shade.proofs.dealt.add_dealt.Goals.{then-strip-workers+in_ok-pairs+in_ok-add_pairs, else-strip-workers}

pub loop-strip-init : goal.loop-strip-init
loop-strip-init c = to-none c.args.join.now c.args.worker c.args.workers c.args.shades.now c.requires.sound

pub add_pairs-requires-clause-corner : goal.add_pairs-requires-clause-corner
add_pairs-requires-clause-corner c = subst (λ (s : Spacing). s.corner ≤ s.rule) (sym c.loop-strip.invariant.more.spacing) c.requires.corner

pub add_pairs-requires-clause-within : goal.add_pairs-requires-clause-within
add_pairs-requires-clause-within c = rw c.items-items.ensures c.requires.within

pub add_pairs-requires-clause-pairs : goal.add_pairs-requires-clause-pairs
add_pairs-requires-clause-pairs c = rw (c.items-items.ensures, c.as_slice.ensures.value)
    (strip-pairs c.args.join.now c.loop-strip.strip _ c.in_ok-pairs.pairs.items c.in_ok-pairs.ensures (c.requires.rule ∙ sym (ap (λ (s : Spacing). s.rule) c.loop-strip.invariant.more.spacing)))

pub add_pairs-requires-clause-sound : goal.add_pairs-requires-clause-sound
add_pairs-requires-clause-sound c = rw c.items-items.ensures c.loop-strip.invariant.sound

pub loop-strip-preserved : goal.loop-strip-preserved
loop-strip-preserved c = elim c.if-strip-workers.branch [
  | then-strip-workers+in_ok-pairs+in_ok-add_pairs w ↦ rw w.shades-is
      (to-more c.args.join.now c.args.worker c.args.workers c.loop-strip.strip w.in_ok-pairs.pairs.items c.args.shades.now c.loop-strip.shades _ w.in_ok-pairs.ensures c.loop-strip.invariant
      (rw c.items-items.ensures at w.in_ok-add_pairs.ensures.sound) w.in_ok-add_pairs.ensures.more
      (rw (c.items-items.ensures, w.as_slice.ensures.value) at w.in_ok-add_pairs.ensures.handles))
  | else-strip-workers w ↦ rw w.shades-is
      (to-past c.args.join.now c.args.worker c.args.workers c.loop-strip.strip c.args.shades.now c.loop-strip.shades w.if-strip-workers.false c.loop-strip.invariant)
]

pub returns-clause-sound : goal.returns-clause-sound
returns-clause-sound c = c.loop-strip.invariant.sound

pub returns-clause-more : goal.returns-clause-more
returns-clause-more c = c.loop-strip.invariant.more

pub returns-clause-handles : goal.returns-clause-handles
returns-clause-handles c =
    let end = c.loop-strip-test.false in
    let count = c.strips-count.ensures.count in
    to-all c.args.join.now c.args.worker c.args.workers c.loop-strip.strip c.args.shades.now c.loop-strip.shades c.strips-count.ensures.homes (omega (arith, end, count)) c.loop-strip.invariant
