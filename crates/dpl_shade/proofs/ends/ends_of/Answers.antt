use Rattle.std.proofs.Common.{◌≡◌, ◌∙◌, length, subst, sym, rules}
use Rattle.dpl_shade.proofs.EndLaws.{AreDone, done-all, done-more, done-none, restored}
use Rattle.dpl_shade.proofs.ends.ends_of.Goals as goal

pub loop-start-init : goal.loop-start-init
loop-start-init c = done-none c.args.items.now c.args.dead.now c.in_ok-ends.ends.items (search rules)

pub mark_live-requires-clause-sound : goal.mark_live-requires-clause-sound
mark_live-requires-clause-sound c = rw c.deref_mut.ensures.value c.loop-start.invariant.sound

pub loop-start-preserved : goal.loop-start-preserved
loop-start-preserved c =
    let old_size = c.loop-start.invariant.sound.sized in
    let new_size = c.mark_live.ensures.sound.sized in
    let counted : c.loop-start.ends.len ≡ length c.loop-start.ends.items = search rules in
    subst (AreDone c.args.items.now c.args.dead.now c.part_end-end.result) (sym (restored c.loop-start.ends.items c.mark_live.new.ends c.loop-start.ends.len counted (new_size ∙ sym old_size)))
    (done-more c.args.items.now c.args.dead.now c.loop-start.start c.part_end-end.result c.loop-start.ends.items c.mark_live.new.ends c.part_end-end.ensures.within c.loop-start.invariant
    c.mark_live.ensures.sound (rw c.deref_mut.ensures.value at c.mark_live.ensures.more) c.mark_live.ensures.all)

pub returns : goal.returns
returns c = done-all c.args.items.now c.args.dead.now c.loop-start.start c.loop-start.ends.items c.requires.order c.requires.within c.loop-start-test.false c.loop-start.invariant
