use Rattle.std.proofs.Common.{◌≡◌, ◌<◌, min, length, arith, ◌∙◌}
use Rattle.std.proofs.lemmas.List.{get_or_default}
use Rattle.std.proofs.lemmas.Result.{IfOk-from_err}
use Rattle.dpl_spec_layout.specs.Points.{placed_points}
use Rattle.dpl_flatten.specs.Totals.{ceiling}
use Rattle.dpl_flatten.proofs.FoundLaws.{top_marked}
use Rattle.dpl_flatten.proofs.faults.find_many.Goals as goal
use Rattle.dpl_flatten.proofs.faults.find_many.Goals.{After-index}

-- what the top places
counted : (c : After-index) → c.index.result.now ≡ min (placed_points c.args.lib.now c.args.layer c.args.top) ceiling
counted c =
    let items = c.in_ok-counted.counted.items in
    let i : c.args.top < length items = omega (arith, c.requires.top, c.in_ok-counted.ensures.each) in
    c.index.ensures ∙ (get_or_default items c.args.top c.index.result.now 0 i ∙ c.in_ok-counted.ensures.right c.args.top
    (top_marked c.args.lib.now c.args.links.now.graph.now c.args.top c.args.links.now.marks.now c.requires.links.graph_of
    c.requires.reached))

pub returns-then-index-gt-MOST_POINTS-clause-fault : goal.returns-then-index-gt-MOST_POINTS-clause-fault
returns-then-index-gt-MOST_POINTS-clause-fault c = (
  c.requires.sound,
  omega (arith, counted (goal.at.returns-then-index-gt-MOST_POINTS-clause-fault c).After-index, c.if-index-gt-MOST_POINTS.true),
)

pub returns-clause-small : goal.returns-clause-small
returns-clause-small c = record { sound = c.requires.sound; few = omega (arith, counted (goal.at.returns-clause-small c).After-index, c.if-index-gt-MOST_POINTS.false) }

pub returns-in_err-counted-clause-small : goal.returns-in_err-counted-clause-small
returns-in_err-counted-clause-small c = IfOk-from_err _ _ c.from_residual.ensures.0

pub returns-in_err-counted-clause-totals : goal.returns-in_err-counted-clause-totals
returns-in_err-counted-clause-totals c = IfOk-from_err _ _ c.from_residual.ensures.0
