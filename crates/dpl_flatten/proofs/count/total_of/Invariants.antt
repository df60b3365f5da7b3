use Rattle.std.proofs.Common.{◌≡◌, min, take, get_or}
use Rattle.std.specs.List.{sum_by}
use Rattle.dpl_spec_format.specs.Tree.{elements_at}
use Rattle.dpl_spec_layout.specs.Points.{points_by}
use Rattle.dpl_flatten.specs.Totals.{ceiling}
use Rattle.dpl_flatten.proofs.count.total_of.Given as goal

abbrev pub invariant-loop-element : goal.invariant-loop-element
invariant-loop-element l = l.total ≡ min (sum_by (points_by l.lib l.chosen (λ j. get_or l.totals j 0)) (take l.element-index (elements_at l.lib l.structure))) ceiling
