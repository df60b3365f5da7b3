use Rattle.std.proofs.Common.{◌≡◌, length, sym, ap, ◌∙◌, subst, arith}
use Rattle.std.proofs.lemmas.List.{length-map}
use Rattle.std.proofs.lemmas.Result.{IfOk-weaker}
use Rattle.dpl_orient.specs.Masks.{is_second}
use Rattle.dpl_orient.specs.Rooted.{AreSidesBelow}
use Rattle.dpl_orient.specs.Chart.{AreLow}
use Rattle.dpl_orient.proofs.Leading.{led-from-chart}
use Rattle.std.proofs.lemmas.Result.{IfOk-from_err}
use Rattle.dpl_orient.proofs.reducing.fewer_rows.Goals as goal

pub returns : goal.returns
returns c =
    IfOk-weaker c.turned.result _ _
    (λ last is. led-from-chart c.args.rows.now c.args.n c.args.sides.now c.args.fixed c.in_ok-chart.chart.items _ _ _ _ c.in_ok-flips.flips.items _
    c.args.colours.now last
    c.in_ok-chart.ensures.chart c.deref.ensures.value c.items.ensures c.in_ok-flips.ensures.led c.deref-2.ensures.value c.items-2.ensures
    c.deref-3.ensures.value is)
    c.turned.ensures

pub chart-requires-clause-ordered : goal.chart-requires-clause-ordered
chart-requires-clause-ordered c = c.requires.ordered

pub chart-requires-clause-below : goal.chart-requires-clause-below
chart-requires-clause-below c = c.requires.below

pub final_flips-requires-clause-few : goal.final_flips-requires-clause-few
final_flips-requires-clause-few c =
    let len : length c.deref.result.now ≡ c.args.n = ap length c.deref.ensures.value ∙ c.in_ok-chart.ensures.chart.len in
    let few = c.in_ok-chart.ensures.few in
    omega (arith, len, few)

pub final_flips-requires-clause-low : goal.final_flips-requires-clause-low
final_flips-requires-clause-low c = subst AreLow (sym c.deref.ensures.value) c.in_ok-chart.ensures.low

pub final_flips-requires-clause-sides : goal.final_flips-requires-clause-sides
final_flips-requires-clause-sides c =
    let len : length c.deref.result.now ≡ c.args.n = ap length c.deref.ensures.value ∙ c.in_ok-chart.ensures.chart.len in
    subst (λ n. AreSidesBelow n c.args.sides.now) (sym len) c.requires.sides

pub final_flips-requires-clause-each : goal.final_flips-requires-clause-each
final_flips-requires-clause-each c =
    let len : length c.deref.result.now ≡ c.args.n = ap length c.deref.ensures.value ∙ c.in_ok-chart.ensures.chart.len in
    sym (length-map c.items.result.now is_second) ∙ (ap length c.items.ensures ∙ (c.requires.each ∙ sym len))

pub turned-requires : goal.turned-requires
turned-requires c =
    let len : length c.deref-2.result.now ≡ c.args.n = ap length c.deref-2.ensures.value ∙ c.in_ok-chart.ensures.chart.len in
    record { each = sym (length-map c.items-2.result.now is_second) ∙ (ap length c.items-2.ensures ∙ (c.requires.each ∙ sym len)) }

pub returns-in_err-chart : goal.returns-in_err-chart
returns-in_err-chart c = IfOk-from_err _ _ c.from_residual.ensures.0

pub returns-in_err-flips : goal.returns-in_err-flips
returns-in_err-flips c = IfOk-from_err _ _ c.from_residual-in_err-flips.ensures.0
