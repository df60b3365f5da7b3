use Rattle.std.proofs.Common.{◌≡◌, List, ◌++◌, take}
use Rattle.dpl_spec_split.specs.declared.Pt.{Pt}
use Rattle.dpl_spec_elements.specs.Paths.{distinct_after}
use Rattle.dpl_shapes.proofs.distinct.distinct_points.Given as goal

abbrev pub invariant-loop-point : goal.invariant-loop-point
invariant-loop-point l = (rest : List Pt) → l.kept.items ++ distinct_after l.last rest ≡ l.initial.kept.items ++ distinct_after l.initial.last (take l.point-index l.rest ++ rest)
