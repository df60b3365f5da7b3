use Rattle.std.proofs.Common.{◌-◌, length, take}
use Rattle.dpl_sweep.specs.Spans.{ArePassed}
use Rattle.dpl_sweep.proofs.spans.pass_edge.Given as goal

abbrev pub invariant-loop-k : goal.invariant-loop-k
invariant-loop-k l = ArePassed l.rule (take l.i l.edges) l.edge l.edges l.spans l.k l.runs.items l.pieces.items

abbrev pub decreases-loop-k : goal.decreases-loop-k
decreases-loop-k l = length l.spans - l.k
