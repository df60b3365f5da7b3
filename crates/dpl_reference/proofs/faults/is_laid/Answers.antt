use Rattle.std.proofs.Common.{refl, rules, arith}
use Rattle.std.specs.Prelude.{FitsSigned}
use Rattle.std.specs.Int.{w16}
use Rattle.std.proofs.lemmas.Int.{ints, to_z-of_z}
use Rattle.dpl_reference.proofs.faults.is_laid.Goals as goal

pub returns-then-divides_both : goal.returns-then-divides_both
returns-then-divides_both c =
    let n : FitsSigned w16 c.args.columns = search rules in
    let m : FitsSigned w16 c.args.rows = search rules in
    let e = rw (c.point_at-from.ensures.value, c.point_at-across.ensures.value) at (simp to_z-of_z at c.if-divides_both.ensures) in
    let f = rw (c.point_at-from.ensures.value, c.point_at-up.ensures.value) at (simp to_z-of_z at c.divides_both-then-divides_both.ensures) in (
      λ t. record {
        column = omega (arith, ints);
        row = omega (arith, ints);
        column_x = (e.0 refl).x;
        column_y = (e.0 refl).y;
        row_x = (f.0 t).x;
        row_y = (f.0 t).y;
      },
      λ d. f.1 (record { x = d.row_x; y = d.row_y }),
    )
