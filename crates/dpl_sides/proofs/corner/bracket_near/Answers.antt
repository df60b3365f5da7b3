use Rattle.std.proofs.Common.{◌<◌, length, sym, ◌∙◌, arith, rules, w32, FitsSigned}
use Rattle.std.proofs.lemmas.Int.{to_z-of_z}
use Rattle.dpl_sides.proofs.CornerLaws.{corners-over, corners-under}
use Rattle.dpl_sides.proofs.corner.bracket_near.Goals as goal

pub bracket_above-requires-clause-under : goal.bracket_above-requires-clause-under
bracket_above-requires-clause-under c =
    let x : FitsSigned w32 c.args.x = search rules in
    let y : FitsSigned w32 c.args.y = search rules in
    let found = rw (to_z-of_z w32 _ x, to_z-of_z w32 _ y) at c.is_before.ensures in
    let here : c.args.place < length c.args.corners.now = omega arith in
    rw (to_z-of_z w32 _ x, to_z-of_z w32 _ y)
    (corners-under c.args.corners.now c.requires.rise c.args.x c.args.y c.args.place _ here (sym found ∙ c.if-is_before.true))

pub bracket_below-requires-2-clause-over : goal.bracket_below-requires-2-clause-over
bracket_below-requires-2-clause-over c =
    let x : FitsSigned w32 c.args.x = search rules in
    let y : FitsSigned w32 c.args.y = search rules in
    let found = rw (to_z-of_z w32 _ x, to_z-of_z w32 _ y) at c.is_before.ensures in
    let here : c.args.place < length c.args.corners.now = omega arith in
    rw (to_z-of_z w32 _ x, to_z-of_z w32 _ y)
    (corners-over c.args.corners.now c.requires.rise c.args.x c.args.y c.args.place _ here (sym found ∙ c.if-is_before.false))
