use Rattle.std.proofs.Common.{[], ◌∷◌, arith, inl, refl}
use Rattle.std.proofs.lemmas.Bool.{false≢true}
use Rattle.std.proofs.lemmas.List.Elements.{Contains-append_left}
use Rattle.dpl_shade.proofs.ShadingLaws.{barren-by, flag-here, flag-stays, handles-none, handles-push, more-same, sound-dead, sound-push}
use Rattle.dpl_shade.proofs.shades.add_shadow.Goals as goal

pub returns-then-not-meets-clause-handles : goal.returns-then-not-meets-clause-handles
returns-then-not-meets-clause-handles c =
    handles-none c.args.items.now c.args.shades.now c.args.n c.args.m c.args.span c.requires.shadow (λ h. false≢true (c.if-not-meets.ensures.1 h))

pub returns-then-leaves_few-clause-sound : goal.returns-then-leaves_few-clause-sound
returns-then-leaves_few-clause-sound c =
    let few = c.if-leaves_few.ensures.0 refl in
    sound-dead c.args.items.now c.args.shades.now.spacing c.args.shades.now.overlap c.args.shades.now.found.items c.args.shades.now.dead.items _ c.args.n refl
    (barren-by c.args.shades.now.spacing c.args.shades.now.overlap c.args.items.now c.args.n c.args.m c.args.span c.requires.second c.requires.apart c.requires.shadow few.0 few.1)
    c.requires.sound

pub returns-clause-sound : goal.returns-clause-sound
returns-clause-sound c =
    sound-push c.args.items.now c.args.shades.now.spacing c.args.shades.now.overlap c.args.shades.now.found.items _ c.args.shades.now.dead.items c.args.n c.args.m c.args.span
    c.in_ok-push.ensures.items c.requires.second c.requires.apart c.requires.shadow c.requires.sound

pub returns-clause-handles : goal.returns-clause-handles
returns-clause-handles c =
    handles-push c.args.items.now
    (record { spacing = c.args.shades.now.spacing; overlap = c.args.shades.now.overlap; found = c.push.new.self; dead = c.args.shades.now.dead })
    c.args.shades.now.found.items c.args.n c.args.m c.args.span
    c.in_ok-push.ensures.items c.requires.shadow

pub returns-then-not-meets-clause-sound : goal.returns-then-not-meets-clause-sound
returns-then-not-meets-clause-sound c = c.requires.sound

pub returns-then-not-meets-clause-more : goal.returns-then-not-meets-clause-more
returns-then-not-meets-clause-more c = more-same c.args.shades.now

pub returns-then-leaves_few-clause-more : goal.returns-then-leaves_few-clause-more
returns-then-leaves_few-clause-more c =
    record { spacing = refl; overlap = refl; found = λ s h. h; dead = λ k d. flag-stays c.args.shades.now.dead.items c.args.n k d }

pub returns-then-leaves_few-clause-handles : goal.returns-then-leaves_few-clause-handles
returns-then-leaves_few-clause-handles c =
    let size = c.requires.sound.sized in let first = c.requires.first in
    inl (flag-here c.args.shades.now.dead.items c.args.n (omega (arith, size, first)))

pub returns-clause-more : goal.returns-clause-more
returns-clause-more c = record {
  spacing = refl;
  overlap = refl;
  found = λ s h. rw c.in_ok-push.ensures.items (Contains-append_left c.args.shades.now.found.items (record { number = c.args.n; span = c.args.span } ∷ []) s h);
  dead = λ n d. d;
}
