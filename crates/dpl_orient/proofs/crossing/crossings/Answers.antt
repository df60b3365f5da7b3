use Rattle.std.proofs.Common.{◌≡◌}
use Rattle.std.proofs.lemmas.List.Sorted.{IsPermutation-map, All-permutation}
use Rattle.dpl_orient.specs.declared.crossing.Across.{Across}
use Rattle.dpl_orient.specs.Crossings.{crossing_at}
use Rattle.dpl_orient.proofs.Across.{sorted-up}
use Rattle.dpl_orient.proofs.Numbers.{grouped-across}
use Rattle.dpl_orient.proofs.crossing.crossings.Goals as goal

pub returns-clause-same : goal.returns-clause-same
returns-clause-same c = rw (← c.in_ok-across.ensures.crossings) (IsPermutation-map (λ (a : Across). crossing_at c.args.chart.now c.args.sides.now a.zone) _ _ c.group.ensures.same)

pub returns-clause-grouped : goal.returns-clause-grouped
returns-clause-grouped c =
    grouped-across c.args.chart.now c.args.sides.now _
    (All-permutation (λ (a : Across). a.later ≡ (crossing_at c.args.chart.now c.args.sides.now a.zone).later) _ _ c.group.ensures.same
    c.in_ok-across.ensures.later) c.group.ensures.grouped

pub returns-clause-up : goal.returns-clause-up
returns-clause-up c =
    sorted-up c.args.chart.now c.args.sides.now _
    (rw (← c.in_ok-across.ensures.crossings) (IsPermutation-map (λ (a : Across). crossing_at c.args.chart.now c.args.sides.now a.zone) _ _ c.group.ensures.same))
