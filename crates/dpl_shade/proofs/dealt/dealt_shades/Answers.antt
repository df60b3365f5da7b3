use Rattle.std.proofs.Common.{refl, ◌∙◌}
use Rattle.dpl_shade.specs.declared.shades.Shades.{Shades}
use Rattle.dpl_shade.proofs.DealtLaws.{sound-start}
use Rattle.dpl_shade.proofs.ShadingLaws.{both-sorted, sound-sorted}
use Rattle.std.proofs.lemmas.Result.{IfOk-from_err}
use Rattle.dpl_shade.proofs.dealt.dealt_shades.Goals as goal

pub add_dealt-requires-clause-sound : goal.add_dealt-requires-clause-sound
add_dealt-requires-clause-sound c =
    sound-start c.args.join.now.items c.args.known.now c.new.result.items c.in_ok-from_slice.field-0.items c.new.ensures.items
    (c.in_ok-from_slice.ensures.items ∙ c.deref.ensures.value) c.requires.sound

pub returns : goal.returns
returns c =
    let old : Shades = c.add_dealt.new.shades in
    let new : Shades = record { spacing = old.spacing; overlap = old.overlap; found = c.sort_by_number.new.found; dead = old.dead } in
    record {
      spacing = c.in_ok-add_dealt.ensures.more.spacing;
      overlap = c.in_ok-add_dealt.ensures.more.overlap;
      sound = sound-sorted c.args.join.now.items old new refl refl refl c.sort_by_number.ensures.same c.in_ok-add_dealt.ensures.sound;
      handles = λ p pair dealt. both-sorted c.args.join.now.items old new refl refl refl c.sort_by_number.ensures.same p (c.in_ok-add_dealt.ensures.handles p pair dealt);
    }

pub returns-in_err-from_slice : goal.returns-in_err-from_slice
returns-in_err-from_slice c = IfOk-from_err _ _ c.from_residual.ensures.0

pub returns-in_err-add_dealt : goal.returns-in_err-add_dealt
returns-in_err-add_dealt c = IfOk-from_err _ _ c.from_residual-in_err-add_dealt.ensures.0
