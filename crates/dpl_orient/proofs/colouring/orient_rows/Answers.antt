use Rattle.std.proofs.Common.{length, sym, ap, ◌∙◌, subst}
use Rattle.std.proofs.lemmas.Result.{IfOk-weaker}
use Rattle.dpl_orient.specs.Chart.{AreLow}
use Rattle.dpl_orient.specs.Crossings.{crossings_at, AreGrouped, GoUp}
use Rattle.dpl_orient.proofs.Across.{rows-coloured}
use Rattle.std.proofs.lemmas.Result.{IfOk-from_err}
use Rattle.dpl_orient.proofs.colouring.orient_rows.Goals as goal

pub returns : goal.returns
returns c =
    IfOk-weaker c.masks.result _ _
    (λ colours h. rows-coloured c.args.rows.now c.args.n c.args.sides.now c.in_ok-chart.chart.items _ _ _ c.in_ok-across.across.items _ c.in_ok-flips.flips.items _ _
    c.requires.sides c.in_ok-chart.ensures.chart c.in_ok-chart.ensures.low c.deref.ensures.value c.in_ok-across.ensures.same
    c.deref-2.ensures.value c.deref-3.ensures.value c.in_ok-flips.ensures.len c.in_ok-flips.ensures.flips c.deref-4.ensures.value
    c.deref-5.ensures.value h)
    c.masks.ensures

pub chart-requires-clause-ordered : goal.chart-requires-clause-ordered
chart-requires-clause-ordered c = c.requires.ordered

pub chart-requires-clause-below : goal.chart-requires-clause-below
chart-requires-clause-below c = c.requires.below

pub flips-requires-clause-grouped : goal.flips-requires-clause-grouped
flips-requires-clause-grouped c =
    subst (λ chart. AreGrouped (crossings_at chart c.args.sides.now c.deref-3.result.now)) (c.deref.ensures.value ∙ sym c.deref-2.ensures.value)
    (subst (λ across. AreGrouped (crossings_at c.deref.result.now c.args.sides.now across)) (sym c.deref-3.ensures.value) c.in_ok-across.ensures.grouped)

pub flips-requires-clause-up : goal.flips-requires-clause-up
flips-requires-clause-up c =
    subst (λ chart. GoUp (crossings_at chart c.args.sides.now c.deref-3.result.now)) (c.deref.ensures.value ∙ sym c.deref-2.ensures.value)
    (subst (λ across. GoUp (crossings_at c.deref.result.now c.args.sides.now across)) (sym c.deref-3.ensures.value) c.in_ok-across.ensures.up)

pub masks-requires-clause-low : goal.masks-requires-clause-low
masks-requires-clause-low c = subst AreLow (sym c.deref-4.ensures.value) c.in_ok-chart.ensures.low

pub masks-requires-clause-len : goal.masks-requires-clause-len
masks-requires-clause-len c =
    ap length c.deref-5.ensures.value ∙ (c.in_ok-flips.ensures.len ∙ sym (ap length c.deref-4.ensures.value ∙ c.in_ok-chart.ensures.chart.len))

pub returns-in_err-chart : goal.returns-in_err-chart
returns-in_err-chart c = IfOk-from_err _ _ c.from_residual.ensures.0

pub returns-in_err-across : goal.returns-in_err-across
returns-in_err-across c = IfOk-from_err _ _ c.from_residual-in_err-across.ensures.0

pub returns-in_err-flips : goal.returns-in_err-flips
returns-in_err-flips c = IfOk-from_err _ _ c.from_residual-in_err-flips.ensures.0
