use Rattle.std.proofs.Common.{refl, sym}
use Rattle.dpl_shade.proofs.ItemLaws.{owned-within}
use Rattle.dpl_shade.proofs.ShadingLaws.{barren-by, flag-stays, more-same, sound-dead}
use Rattle.dpl_shade.proofs.crowded.darken.Goals as goal

pub shadow-requires-clause-slab : goal.shadow-requires-clause-slab
shadow-requires-clause-slab c = owned-within c.args.items.now c.args.n _ c.requires.within c.requires.first

pub shadow-requires-clause-other : goal.shadow-requires-clause-other
shadow-requires-clause-other c = owned-within c.args.items.now c.args.m _ c.requires.within c.requires.second

pub returns-then-leaves_few-clause-sound : goal.returns-then-leaves_few-clause-sound
returns-then-leaves_few-clause-sound c =
    let few = c.if-leaves_few.ensures.0 refl in
    sound-dead c.args.items.now c.args.shades.now.spacing c.args.shades.now.overlap c.args.shades.now.found.items c.args.shades.now.dead.items _ c.args.n refl
    (barren-by c.args.shades.now.spacing c.args.shades.now.overlap c.args.items.now c.args.n c.args.m c.in-Some.span c.requires.second (λ e. c.if-slab-other.false (sym e))
    c.in-Some.ensures.some few.0 few.1)
    c.requires.sound

pub shadow-requires-clause-corner : goal.shadow-requires-clause-corner
shadow-requires-clause-corner c = c.requires.corner

pub returns-then-slab-other-clause-sound : goal.returns-then-slab-other-clause-sound
returns-then-slab-other-clause-sound c = c.requires.sound

pub returns-then-slab-other-clause-more : goal.returns-then-slab-other-clause-more
returns-then-slab-other-clause-more c = more-same c.args.shades.now

pub returns-then-leaves_few-clause-more : goal.returns-then-leaves_few-clause-more
returns-then-leaves_few-clause-more c =
    record { spacing = refl; overlap = refl; found = λ s h. h; dead = λ k d. flag-stays c.args.shades.now.dead.items c.args.n k d }

pub returns-else-leaves_few-clause-sound : goal.returns-else-leaves_few-clause-sound
returns-else-leaves_few-clause-sound c = c.requires.sound

pub returns-else-leaves_few-clause-more : goal.returns-else-leaves_few-clause-more
returns-else-leaves_few-clause-more c = more-same c.args.shades.now

pub returns-in_default-clause-sound : goal.returns-in_default-clause-sound
returns-in_default-clause-sound c = c.requires.sound

pub returns-in_default-clause-more : goal.returns-in_default-clause-more
returns-in_default-clause-more c = more-same c.args.shades.now
