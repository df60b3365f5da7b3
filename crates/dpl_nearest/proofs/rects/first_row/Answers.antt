use Rattle.std.proofs.Common.{rules, arith, refl, sym, true≢false, FitsSigned, w32, to_z}
use Rattle.std.specs.Prelude.{◌-ℤ◌}
use Rattle.std.proofs.lemmas.Int.{ints, to_z-of_z}
use borrow.Author.Rules.{sfits_of}
use Rattle.dpl_nearest.specs.Search.{ItemCovers}
use Rattle.dpl_nearest.proofs.NearLaws.{no_rows, near_row}
use Rattle.dpl_nearest.proofs.rects.first_row.Goals as goal

pub loop-high-init : goal.loop-high-init
loop-high-init c =
    let low : FitsSigned w32 c.args.r.now.y0 = search rules in
    let high : FitsSigned w32 c.args.r.now.y1 = search rules in
    rw (to_z-of_z w32 c.args.r.now.y0 low, to_z-of_z w32 c.args.r.now.y1 high)
    (record {
      low = omega (arith, ints);
      between = search rules;
      high = omega (arith, ints);
      none = no_rows c.args.spacing c.args.r.now
          (ItemCovers c.args.owners c.args.others.now);
      some = c.requires.near;
    })

pub loop-high-smaller-then-near_below : goal.loop-high-smaller-then-near_below
loop-high-smaller-then-near_below c =
    let m : FitsSigned w32 c.halfway-middle.result = search rules in
    rw (to_z-of_z w32 c.halfway-middle.result m) (omega (arith, ints))

pub halfway-middle-requires-clause-apart : goal.halfway-middle-requires-clause-apart
halfway-middle-requires-clause-apart c =
    let low = c.loop-high.invariant.low in
    let high = c.loop-high.invariant.high in
    let fits : FitsSigned w32 (to_z w32 c.loop-high.high-bits -ℤ to_z w32 c.loop-high.low-bits) = sfits_of (omega (arith, ints, low, high)) in
    let test = rw (to_z-of_z w32 (to_z w32 c.loop-high.high-bits -ℤ to_z w32 c.loop-high.low-bits) fits) at c.loop-high-test.true in
    omega (arith, ints, test)

pub loop-high-smaller : goal.loop-high-smaller
loop-high-smaller c =
    let m : FitsSigned w32 c.halfway-middle.result = search rules in
    rw (to_z-of_z w32 c.halfway-middle.result m) (omega (arith, ints))

pub returns-clause-near : goal.returns-clause-near
returns-clause-near c = near_row c.args.spacing c.args.r.now (ItemCovers c.args.owners c.args.others.now) _ _ c.loop-high.invariant.low
    (omega (arith, ints)) c.loop-high.invariant.none c.loop-high.invariant.some

pub loop-high-preserved-then-near_below : goal.loop-high-preserved-then-near_below
loop-high-preserved-then-near_below c =
    let m : FitsSigned w32 c.halfway-middle.result = search rules in
    let old = c.loop-high.invariant in
    let below = c.halfway-middle.ensures.below in
    let same = to_z-of_z w32 c.halfway-middle.result m in
    record {
      low = old.low;
      between = rw same c.halfway-middle.ensures.above;
      high = rw same
          (omega (arith, ints, below, old.high));
      none = old.none;
      some = (c.if-near_below.ensures).0 refl;
    }

pub loop-high-preserved : goal.loop-high-preserved
loop-high-preserved c =
    let m : FitsSigned w32 c.halfway-middle.result = search rules in
    let old = c.loop-high.invariant in
    let above = c.halfway-middle.ensures.above in
    let same = to_z-of_z w32 c.halfway-middle.result m in
    record {
      low = rw same (omega (arith, ints, above, old.low));
      between = rw same c.halfway-middle.ensures.below;
      high = old.high;
      none = λ near. true≢false (sym ((c.if-near_below.ensures).1 near));
      some = old.some;
    }
