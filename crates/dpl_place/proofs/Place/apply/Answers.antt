use Rattle.std.proofs.Common.{◌≡◌, ◌^◌, arith, subst, sym, to_z, of_z, w64, ◌+ℤ◌}
use Rattle.std.proofs.lemmas.Int.{ints}
use Rattle.dpl_spec_elements.specs.Motions.{Motion, IsMotionWithin}
use Rattle.dpl_place.proofs.Turning.{image-steps}
use Rattle.dpl_place.proofs.Place.apply.Goals as goal

pub returns : goal.returns
returns c =
    let m : Motion = record { reflect = c.self.inside.reflect; turns = c.self.inside.turns; dx = c.self.inside.dx; dy = c.self.inside.dy } in
    let within : IsMotionWithin (2 ^ 61) m = subst (IsMotionWithin (2 ^ 61)) (sym c.self.view_is) c.requires.place in
    let column = within.column in
    let row = within.row in
    let x : to_z w64 (of_z w64 (to_z w64 (of_z w64 c.turn-at.result.x) +ℤ to_z w64 (of_z w64 c.self.inside.dx))) ≡ c.turn-at.result.x +ℤ c.self.inside.dx = omega (arith, ints) in
    let y : to_z w64 (of_z w64 (to_z w64 (of_z w64 c.turn-at.result.y) +ℤ to_z w64 (of_z w64 c.self.inside.dy))) ≡ c.turn-at.result.y +ℤ c.self.inside.dy = omega (arith, ints) in
    rw (← c.self.view_is) (image-steps m c.args.point c.mirror.result c.turn-at.result _ _ c.mirror.ensures.image c.turn-at.ensures.image x y)
