use Rattle.std.proofs.Common.{length, get_or, take, subst, arith}
use Rattle.std.proofs.lemmas.List.{take_all, take_more}
use Rattle.dpl_stars.specs.declared.list.Star.{Star}
use Rattle.dpl_stars.specs.Stars.{own_row}
use Rattle.dpl_orient.specs.Chart.{IsChart}
use Rattle.dpl_orient.proofs.Charts.{chart-put}
use Rattle.dpl_orient.proofs.chart.put_rows.Goals as goal

pub loop-row-init : goal.loop-row-init
loop-row-init c = c.requires.own

pub rooted_by-requires : goal.rooted_by-requires
rooted_by-requires c = c.requires.roots c.loop-row.row-index (own_row 0) c.loop-row-test.true

pub bounds-chart-row : goal.bounds-chart-row
bounds-chart-row c =
    let below = c.requires.below c.loop-row.row-index (own_row 0) c.loop-row-test.true in
    let len = c.loop-row.invariant.len in
    omega (arith, below, len)

pub loop-row-preserved : goal.loop-row-preserved
loop-row-preserved c =
    let row : Star = get_or c.args.rows.now c.loop-row.row-index (own_row 0) in
    rw (take_more c.args.rows.now c.loop-row.row-index (own_row 0) c.loop-row-test.true, c.rooted_by.ensures)
    (chart-put (take c.loop-row.row-index c.args.rows.now) (length c.args.chart.now) c.loop-row.chart row c.loop-row.invariant
    (c.requires.below c.loop-row.row-index (own_row 0) c.loop-row-test.true))

pub returns : goal.returns
returns c =
    subst (λ rows. IsChart rows (length c.args.chart.now) c.loop-row.chart)
    (take_all c.loop-row.row-index c.args.rows.now c.loop-row-test.false) c.loop-row.invariant
