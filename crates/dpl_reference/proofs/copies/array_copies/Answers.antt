use Rattle.std.proofs.Common.{rules, arith}
use Rattle.std.specs.Prelude.{FitsSigned}
use Rattle.std.specs.Int.{w16}
use Rattle.std.proofs.lemmas.Int.{ints, to_z-of_z}
use Rattle.dpl_reference.proofs.copies.array_copies.Goals as goal

pub returns-clause-copies : goal.returns-clause-copies
returns-clause-copies c =
    let n : FitsSigned w16 c.args.columns = search rules in
    let m : FitsSigned w16 c.args.rows = search rules in
    let across = simp to_z-of_z at c.spacing-across.ensures.value in
    let up = simp to_z-of_z at c.spacing-up.ensures.value in
    let wide = simp to_z-of_z at c.unsigned_abs.ensures.value in
    let tall = simp to_z-of_z at c.unsigned_abs-2.ensures.value in
    record {
      reflect = c.own_orientation-orientation.ensures.reflect;
      turns = c.own_orientation-orientation.ensures.turns;
      few = c.own_orientation-orientation.ensures.few;
      origin = c.point_at-origin.ensures.value;
      across = rw (c.point_at-origin.ensures.value, c.point_at.ensures.value) at across;
      up = rw (c.point_at-origin.ensures.value, c.point_at-2.ensures.value) at up;
      columns = wide;
      rows = tall;
      small = record {
        origin = c.point_at-origin.ensures.within;
        across = rw wide (simp to_z-of_z at c.spacing-across.ensures.within);
        up = rw tall (simp to_z-of_z at c.spacing-up.ensures.within);
        columns = omega (arith, ints, c.unsigned_abs.ensures.bound);
        rows = omega (arith, ints, c.unsigned_abs-2.ensures.bound);
        some_columns = omega (arith, ints, wide, c.requires.columns);
        some_rows = omega (arith, ints, tall, c.requires.rows);
      };
    }
