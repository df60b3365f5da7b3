use Rattle.std.proofs.Common.{length, ◌<◌, ◌-◌, sym, ◌∙◌, arith, rules, w32, FitsSigned}
use Rattle.std.proofs.lemmas.Int.{to_z-of_z}
use Rattle.dpl_sides.proofs.CornerLaws.{corners-over, corners-under}
use Rattle.dpl_sides.proofs.corner.bracket_below.Goals as goal

pub returns-then-is_before : goal.returns-then-is_before
returns-then-is_before c =
    let x : FitsSigned w32 c.args.x = search rules in
    let y : FitsSigned w32 c.args.y = search rules in
    let found = rw (to_z-of_z w32 _ x, to_z-of_z w32 _ y) at c.is_before.ensures in
    let here : c.loop-low.low - 1 < length c.args.corners.now = omega arith in
    record {
      order = c.loop-low.invariant.order;
      within = c.loop-low.invariant.within;
      under = λ k d l k_in. corners-under c.args.corners.now c.requires.rise c.args.x c.args.y (c.loop-low.low - 1) _ here (sym found ∙ c.if-is_before.true)
          k d l (omega (arith, k_in));
      over = rw (to_z-of_z w32 _ x, to_z-of_z w32 _ y) at c.loop-low.invariant.over;
    }

pub loop-low-preserved : goal.loop-low-preserved
loop-low-preserved c =
    let x : FitsSigned w32 c.args.x = search rules in
    let y : FitsSigned w32 c.args.y = search rules in
    let found = rw (to_z-of_z w32 _ x, to_z-of_z w32 _ y) at c.is_before.ensures in
    let here : c.loop-low.low - 1 < length c.args.corners.now = omega arith in
    record {
      order = omega arith;
      within = omega arith;
      over = rw (to_z-of_z w32 _ x, to_z-of_z w32 _ y)
          (corners-over c.args.corners.now c.requires.rise c.args.x c.args.y (c.loop-low.low - 1) _ here (sym found ∙ c.if-is_before.false));
    }
