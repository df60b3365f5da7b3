use Rattle.std.proofs.Common.{ℕ, List, ap, ◌∙◌, subst, sym}
use Rattle.std.proofs.lemmas.Result.{IfOk-weaker, IfOk-from_err}
use Rattle.dpl_orient.specs.Chart.{odds_in, roots_in}
use Rattle.dpl_orient.specs.Rooted.{AreRooted}
use Rattle.dpl_orient.proofs.Across.{chart-rooted}
use Rattle.dpl_orient.proofs.components.roots_of_rows.Goals as goal

pub returns : goal.returns
returns c =
    let rows = c.args.rows.now in
    let chart = c.in_ok-chart.chart.items in
    IfOk-weaker c.roots_in.result _ _
    (λ roots is. (
      odds_in chart,
      subst (λ (rs : List ℕ). AreRooted rows c.args.n rs (odds_in chart)) (sym (is ∙ ap roots_in c.deref.ensures.value))
          (chart-rooted rows c.args.n chart c.in_ok-chart.ensures.chart),
    ))
    c.roots_in.ensures

pub returns-in_err-chart : goal.returns-in_err-chart
returns-in_err-chart c = IfOk-from_err _ _ c.from_residual.ensures.0
