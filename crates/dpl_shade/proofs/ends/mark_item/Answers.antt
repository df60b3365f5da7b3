use Rattle.std.proofs.Common.{arith, refl}
use Rattle.std.proofs.lemmas.Bool.{false≢true}
use Rattle.dpl_shade.proofs.EndLaws.{marked-all, marked-next, marked-start, marked-until}
use Rattle.dpl_shade.proofs.ends.mark_item.Goals as goal

pub loop-k-init : goal.loop-k-init
loop-k-init c = marked-start c.args.items.now c.requires.order c.requires.within c.requires.rise c.args.n c.args.end _ c.requires.part c.first_on-first.ensures c.args.ends.now c.requires.sound

pub loop-k-preserved : goal.loop-k-preserved
loop-k-preserved c =
    marked-next c.args.items.now c.requires.order c.requires.within c.requires.rise c.args.n c.args.end _ c.requires.part c.first_on-first.ensures c.args.ends.now c.loop-k.k c.loop-k.ends _
    (omega arith) c.loop-k-test.true (c.if-not-meet.ensures.0 refl) c.loop-k.invariant (record { sized = c.mark.ensures.sized; above = c.mark.ensures.above; below = c.mark.ensures.below })

pub returns-then-not-meet-clause-sound : goal.returns-then-not-meet-clause-sound
returns-then-not-meet-clause-sound c = c.loop-k.invariant.sound

pub returns-then-not-meet-clause-more : goal.returns-then-not-meet-clause-more
returns-then-not-meet-clause-more c = c.loop-k.invariant.more

pub returns-then-not-meet-clause-all : goal.returns-then-not-meet-clause-all
returns-then-not-meet-clause-all c =
    marked-until c.args.items.now c.requires.order c.requires.within c.requires.rise c.args.n c.args.end _ c.requires.part c.first_on-first.ensures c.args.ends.now c.loop-k.k c.loop-k.ends
    (omega arith) c.loop-k-test.true (λ m. false≢true (c.if-not-meet.ensures.1 m)) c.loop-k.invariant

pub returns-clause-sound : goal.returns-clause-sound
returns-clause-sound c = c.loop-k.invariant.sound

pub returns-clause-more : goal.returns-clause-more
returns-clause-more c = c.loop-k.invariant.more

pub returns-clause-all : goal.returns-clause-all
returns-clause-all c =
    marked-all c.args.items.now c.requires.order c.requires.within c.requires.rise c.args.n c.args.end _ c.requires.part c.first_on-first.ensures c.args.ends.now c.loop-k.k c.loop-k.ends
    (omega arith) c.loop-k.invariant
