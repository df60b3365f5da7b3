use Rattle.std.proofs.Common.{FitsSigned, Some, None, arith, rules, subst, sym, w32, w64}
use Rattle.std.proofs.lemmas.Int.{ints, to_z-of_z}
use Rattle.dpl_spec_split.specs.Squares.{Has}
use Rattle.dpl_nearest.specs.Search.{FitsIn32Bits, IsLeastNear}
use Rattle.dpl_nearest.proofs.FewLaws.{across-as, column-as, column-fits, far-across, least-near, next-fits, no-column, no-columns, no-row, row-as, row-fits, up-as}
use Rattle.dpl_nearest.proofs.few.least_beside.Goals as goal

pub returns-in_err-rows : goal.returns-in_err-rows
returns-in_err-rows c =
    let f : FitsIn32Bits c.args.r.now = record { left = search rules; right = search rules; low = search rules; high = search rules } in
    let g : FitsIn32Bits c.args.other.now = record { left = search rules; right = search rules; low = search rules; high = search rules } in
    let sides = across-as c.args.r.now c.args.other.now _ f g c.span_gap-across.ensures.gap in
    subst (IsLeastNear c.args.spacing (Has c.args.r.now) (Has c.args.other.now)) (sym c.from_residual.ensures)
    (far-across c.args.spacing c.args.r.now c.args.other.now _ c.requires.corner sides (c.in_err-rows.ensures.none.0 (search rules)))

pub returns-in_err-y : goal.returns-in_err-y
returns-in_err-y c =
    let f : FitsIn32Bits c.args.r.now = record { left = search rules; right = search rules; low = search rules; high = search rules } in
    let g : FitsIn32Bits c.args.other.now = record { left = search rules; right = search rules; low = search rules; high = search rules } in
    let sides = across-as c.args.r.now c.args.other.now _ f g c.span_gap-across.ensures.gap in
    let none = row-as c.args.r.now c.args.other.now c.in_ok-rows.rows None f g c.in_err-y.ensures in
    subst (IsLeastNear c.args.spacing (Has c.args.r.now) (Has c.args.other.now)) (sym c.from_residual-in_err-y.ensures)
    (no-row c.args.spacing c.args.r.now c.args.other.now _ c.in_ok-rows.rows c.requires.corner sides c.in_ok-rows.ensures.some none)

pub span_gap-up-requires-clause-some_a : goal.span_gap-up-requires-clause-some_a
span_gap-up-requires-clause-some_a c =
    let f : FitsIn32Bits c.args.r.now = record { left = search rules; right = search rules; low = search rules; high = search rules } in
    let g : FitsIn32Bits c.args.other.now = record { left = search rules; right = search rules; low = search rules; high = search rules } in
    let row = row-as c.args.r.now c.args.other.now c.in_ok-rows.rows (Some c.in_ok-y.y) f g c.in_ok-y.ensures in
    rw (to_z-of_z w32 c.in_ok-y.y (row-fits c.args.r.now c.in_ok-y.y f row.0), to_z-of_z w32 _ (next-fits c.args.r.now c.in_ok-y.y f row.0)) (omega (arith, ints))

pub returns-in_err-columns : goal.returns-in_err-columns
returns-in_err-columns c =
    let f : FitsIn32Bits c.args.r.now = record { left = search rules; right = search rules; low = search rules; high = search rules } in
    let g : FitsIn32Bits c.args.other.now = record { left = search rules; right = search rules; low = search rules; high = search rules } in
    let row = row-as c.args.r.now c.args.other.now c.in_ok-rows.rows (Some c.in_ok-y.y) f g c.in_ok-y.ensures in
    let gaps = up-as c.args.r.now c.args.other.now c.in_ok-y.y _ f g row.0 c.span_gap-up.ensures.gap in
    subst (IsLeastNear c.args.spacing (Has c.args.r.now) (Has c.args.other.now)) (sym c.from_residual-in_err-columns.ensures)
    (absurd (no-columns c.args.spacing c.args.other.now c.in_ok-y.y _ c.in_ok-rows.rows _ c.requires.corner c.in_ok-rows.ensures.some row.1 gaps (c.in_err-columns.ensures.none.0 (search rules))))

pub returns-in_err-x : goal.returns-in_err-x
returns-in_err-x c =
    let f : FitsIn32Bits c.args.r.now = record { left = search rules; right = search rules; low = search rules; high = search rules } in
    let g : FitsIn32Bits c.args.other.now = record { left = search rules; right = search rules; low = search rules; high = search rules } in
    let sides = across-as c.args.r.now c.args.other.now _ f g c.span_gap-across.ensures.gap in
    let row = row-as c.args.r.now c.args.other.now c.in_ok-rows.rows (Some c.in_ok-y.y) f g c.in_ok-y.ensures in
    let gaps = up-as c.args.r.now c.args.other.now c.in_ok-y.y _ f g row.0 c.span_gap-up.ensures.gap in
    let none = column-as c.args.r.now c.args.other.now c.in_ok-columns.columns None f g c.in_err-x.ensures in
    subst (IsLeastNear c.args.spacing (Has c.args.r.now) (Has c.args.other.now)) (sym c.from_residual-in_err-x.ensures)
    (absurd (no-column c.args.spacing c.args.r.now c.args.other.now c.in_ok-y.y _ c.in_ok-rows.rows _ c.in_ok-columns.columns c.requires.corner sides
    c.in_ok-rows.ensures.some row.1 gaps c.in_ok-columns.ensures.some none))

pub returns : goal.returns
returns c =
    let f : FitsIn32Bits c.args.r.now = record { left = search rules; right = search rules; low = search rules; high = search rules } in
    let g : FitsIn32Bits c.args.other.now = record { left = search rules; right = search rules; low = search rules; high = search rules } in
    let sides = across-as c.args.r.now c.args.other.now _ f g c.span_gap-across.ensures.gap in
    let row = row-as c.args.r.now c.args.other.now c.in_ok-rows.rows (Some c.in_ok-y.y) f g c.in_ok-y.ensures in
    let gaps = up-as c.args.r.now c.args.other.now c.in_ok-y.y _ f g row.0 c.span_gap-up.ensures.gap in
    let column = column-as c.args.r.now c.args.other.now c.in_ok-columns.columns (Some c.in_ok-x.x) f g c.in_ok-x.ensures in
    let x : FitsSigned w64 c.in_ok-x.x = search rules in
    let y : FitsSigned w64 c.in_ok-y.y = search rules in
    rw (
      to_z-of_z w32 c.in_ok-y.y (row-fits c.args.r.now c.in_ok-y.y f row.0),
      to_z-of_z w32 c.in_ok-x.x (column-fits c.args.r.now c.in_ok-x.x f column.0),
      to_z-of_z w64 c.in_ok-y.y y,
      to_z-of_z w64 c.in_ok-x.x x,
    )
    (least-near c.args.spacing c.args.r.now c.args.other.now c.in_ok-x.x c.in_ok-y.y _ c.in_ok-rows.rows _ c.in_ok-columns.columns c.requires.corner sides
    c.in_ok-rows.ensures.some row gaps c.in_ok-columns.ensures.some column)

pub span_gap-across-requires-clause-some_a : goal.span_gap-across-requires-clause-some_a
span_gap-across-requires-clause-some_a c =
    let low : FitsSigned w32 c.args.r.now.x0 = search rules in
    let high : FitsSigned w32 c.args.r.now.x1 = search rules in
    rw (to_z-of_z w32 c.args.r.now.x0 low, to_z-of_z w32 c.args.r.now.x1 high) c.requires.solid.wide

pub span_gap-across-requires-clause-some_b : goal.span_gap-across-requires-clause-some_b
span_gap-across-requires-clause-some_b c =
    let low : FitsSigned w32 c.args.other.now.x0 = search rules in
    let high : FitsSigned w32 c.args.other.now.x1 = search rules in
    rw (to_z-of_z w32 c.args.other.now.x0 low, to_z-of_z w32 c.args.other.now.x1 high) c.requires.other.wide

pub first_within-requires-clause-some_a : goal.first_within-requires-clause-some_a
first_within-requires-clause-some_a c =
    let low : FitsSigned w32 c.args.r.now.y0 = search rules in
    let high : FitsSigned w32 c.args.r.now.y1 = search rules in
    rw (to_z-of_z w32 c.args.r.now.y0 low, to_z-of_z w32 c.args.r.now.y1 high) c.requires.solid.tall

pub first_within-requires-clause-some_b : goal.first_within-requires-clause-some_b
first_within-requires-clause-some_b c =
    let low : FitsSigned w32 c.args.other.now.y0 = search rules in
    let high : FitsSigned w32 c.args.other.now.y1 = search rules in
    rw (to_z-of_z w32 c.args.other.now.y0 low, to_z-of_z w32 c.args.other.now.y1 high) c.requires.other.tall

pub span_gap-up-requires-clause-some_b : goal.span_gap-up-requires-clause-some_b
span_gap-up-requires-clause-some_b c =
    let low : FitsSigned w32 c.args.other.now.y0 = search rules in
    let high : FitsSigned w32 c.args.other.now.y1 = search rules in
    rw (to_z-of_z w32 c.args.other.now.y0 low, to_z-of_z w32 c.args.other.now.y1 high) c.requires.other.tall

pub first_within-requires-2-clause-some_a : goal.first_within-requires-2-clause-some_a
first_within-requires-2-clause-some_a c =
    let low : FitsSigned w32 c.args.r.now.x0 = search rules in
    let high : FitsSigned w32 c.args.r.now.x1 = search rules in
    rw (to_z-of_z w32 c.args.r.now.x0 low, to_z-of_z w32 c.args.r.now.x1 high) c.requires.solid.wide

pub first_within-requires-2-clause-some_b : goal.first_within-requires-2-clause-some_b
first_within-requires-2-clause-some_b c =
    let low : FitsSigned w32 c.args.other.now.x0 = search rules in
    let high : FitsSigned w32 c.args.other.now.x1 = search rules in
    rw (to_z-of_z w32 c.args.other.now.x0 low, to_z-of_z w32 c.args.other.now.x1 high) c.requires.other.wide

pub overflow_add-y : goal.overflow_add-y
overflow_add-y c =
    let f : FitsIn32Bits c.args.r.now = record { left = search rules; right = search rules; low = search rules; high = search rules } in
    let g : FitsIn32Bits c.args.other.now = record { left = search rules; right = search rules; low = search rules; high = search rules } in
    let row = row-as c.args.r.now c.args.other.now c.in_ok-rows.rows (Some c.in_ok-y.y) f g c.in_ok-y.ensures in
    rw (to_z-of_z w32 c.in_ok-y.y (row-fits c.args.r.now c.in_ok-y.y f row.0)) (next-fits c.args.r.now c.in_ok-y.y f row.0)
