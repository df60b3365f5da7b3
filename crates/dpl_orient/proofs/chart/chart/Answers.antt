use Rattle.std.proofs.Common.{◌≡◌, [], length, sym, ap, ◌∙◌, subst, arith}
use Rattle.std.specs.Vec.{with_items}
use Rattle.std.proofs.lemmas.List.{with_items_is}
use Rattle.dpl_orient.specs.Rooted.{ArePiecesBelow}
use Rattle.dpl_orient.specs.Chart.{IsChart, AreLow}
use Rattle.dpl_orient.proofs.Charts.{chart-low}
use Rattle.dpl_orient.proofs.chart.chart.Goals as goal

pub put_rows-requires-clause-own : goal.put_rows-requires-clause-own
put_rows-requires-clause-own c =
    let own = c.in_ok-chart.ensures.chart in
    subst (λ rooted. IsChart [] (length rooted) rooted) (sym c.deref_mut.ensures.value)
    (subst (λ n. IsChart [] n c.in_ok-chart.chart.items) (sym own.len) own)

pub put_rows-requires-clause-below : goal.put_rows-requires-clause-below
put_rows-requires-clause-below c =
    let len : length c.deref_mut.result.now ≡ c.args.n = ap length c.deref_mut.ensures.value ∙ c.in_ok-chart.ensures.chart.len in
    subst (λ n. ArePiecesBelow n c.args.rows.now) (sym len) c.requires.below

pub put_rows-requires-clause-roots : goal.put_rows-requires-clause-roots
put_rows-requires-clause-roots c = λ k d l.
    let low = c.requires.ordered.low k d l in
    let below = c.requires.below k d l in
    let few = c.in_ok-chart.ensures.few in
    omega (arith, low, below, few)

pub returns-clause-chart : goal.returns-clause-chart
returns-clause-chart c =
    let is : (with_items c.in_ok-chart.chart c.put_rows.new.chart).items ≡ c.put_rows.new.chart =
    with_items_is c.in_ok-chart.chart c.put_rows.new.chart (c.put_rows.auto.chart ∙ c.deref_mut.ensures.len) in
    let len : length c.deref_mut.result.now ≡ c.args.n = ap length c.deref_mut.ensures.value ∙ c.in_ok-chart.ensures.chart.len in
    subst (IsChart c.args.rows.now c.args.n) (sym is) (subst (λ n. IsChart c.args.rows.now n c.put_rows.new.chart) len c.put_rows.ensures)

pub returns-clause-low : goal.returns-clause-low
returns-clause-low c =
    let is : (with_items c.in_ok-chart.chart c.put_rows.new.chart).items ≡ c.put_rows.new.chart =
    with_items_is c.in_ok-chart.chart c.put_rows.new.chart (c.put_rows.auto.chart ∙ c.deref_mut.ensures.len) in
    subst AreLow (sym is) (chart-low c.args.rows.now _ c.put_rows.new.chart c.requires.ordered c.put_rows.ensures)

pub returns-clause-few : goal.returns-clause-few
returns-clause-few c = c.in_ok-chart.ensures.few
