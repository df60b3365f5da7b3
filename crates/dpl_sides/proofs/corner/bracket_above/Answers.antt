use Rattle.std.proofs.Common.{sym, ◌∙◌, arith, rules, w32, FitsSigned}
use Rattle.std.proofs.lemmas.Int.{to_z-of_z}
use Rattle.dpl_sides.proofs.CornerLaws.{corners-over, corners-under}
use Rattle.dpl_sides.proofs.corner.bracket_above.Goals as goal

pub returns-then-not-is_before : goal.returns-then-not-is_before
returns-then-not-is_before c =
    let x : FitsSigned w32 c.args.x = search rules in
    let y : FitsSigned w32 c.args.y = search rules in
    let found = rw (to_z-of_z w32 _ x, to_z-of_z w32 _ y) at c.is_before.ensures in
    record {
      order = c.loop-high.invariant.order;
      within = c.loop-high.invariant.within;
      under = rw (to_z-of_z w32 _ x, to_z-of_z w32 _ y) at c.loop-high.invariant.under;
      over = corners-over c.args.corners.now c.requires.rise c.args.x c.args.y c.loop-high.high _ c.loop-high-test.true (sym found ∙ c.if-not-is_before.true);
    }

pub loop-high-preserved : goal.loop-high-preserved
loop-high-preserved c =
    let x : FitsSigned w32 c.args.x = search rules in
    let y : FitsSigned w32 c.args.y = search rules in
    let found = rw (to_z-of_z w32 _ x, to_z-of_z w32 _ y) at c.is_before.ensures in
    record {
      order = omega arith;
      within = omega arith;
      under = rw (to_z-of_z w32 _ x, to_z-of_z w32 _ y)
          (corners-under c.args.corners.now c.requires.rise c.args.x c.args.y c.loop-high.high _ c.loop-high-test.true (sym found ∙ c.if-not-is_before.false));
    }
