use Rattle.std.proofs.Common.{take}
use Rattle.std.specs.List.{All}
use Rattle.dpl_sweep.specs.Spans.{HasEnds}
use Rattle.dpl_sweep.proofs.spans.ends_of.Given as goal

abbrev pub invariant-loop-edge : goal.invariant-loop-edge
invariant-loop-edge l = All (HasEnds l.ends.items) (take l.edge-index l.edges)
