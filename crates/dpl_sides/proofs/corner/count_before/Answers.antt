use Rattle.std.proofs.Common.{ℕ, ◌+◌, ◌-◌, ◌/◌, ◌<◌, length, sym, ◌∙◌, arith, rules, w32, FitsSigned}
use Rattle.std.proofs.lemmas.Int.{to_z-of_z}
use Rattle.dpl_sides.proofs.CornerLaws.{corners-over, corners-under}
use Rattle.dpl_sides.proofs.corner.count_before.Goals as goal

pub loop-low-preserved-then-is_before : goal.loop-low-preserved-then-is_before
loop-low-preserved-then-is_before c =
    let x : FitsSigned w32 c.args.x = search rules in
    let y : FitsSigned w32 c.args.y = search rules in
    let found = rw (to_z-of_z w32 _ x, to_z-of_z w32 _ y) at c.is_before.ensures in
    let some = c.loop-low-test.true in
    let middle : ℕ = c.loop-low.low + (c.loop-low.high - c.loop-low.low) / 2 in
    let here : middle < length c.args.corners.now = omega (arith, some, c.loop-low.invariant.within) in
    record {
      order = omega (arith, some);
      within = c.loop-low.invariant.within;
      under = rw (to_z-of_z w32 _ x, to_z-of_z w32 _ y)
          (corners-under c.args.corners.now c.requires c.args.x c.args.y middle _ here (sym found ∙ c.if-is_before.true));
      over = c.loop-low.invariant.over;
    }

pub loop-low-preserved : goal.loop-low-preserved
loop-low-preserved c =
    let x : FitsSigned w32 c.args.x = search rules in
    let y : FitsSigned w32 c.args.y = search rules in
    let found = rw (to_z-of_z w32 _ x, to_z-of_z w32 _ y) at c.is_before.ensures in
    let some = c.loop-low-test.true in
    let middle : ℕ = c.loop-low.low + (c.loop-low.high - c.loop-low.low) / 2 in
    let here : middle < length c.args.corners.now = omega (arith, some, c.loop-low.invariant.within) in
    record {
      order = omega (arith, some);
      within = omega (arith, some, c.loop-low.invariant.within);
      under = c.loop-low.invariant.under;
      over = rw (to_z-of_z w32 _ x, to_z-of_z w32 _ y)
          (corners-over c.args.corners.now c.requires c.args.x c.args.y middle _ here (sym found ∙ c.if-is_before.false));
    }
