use Rattle.dpl_sweep.specs.Spans.{AreShut}
use Rattle.dpl_sweep.proofs.spans.shut.Given as goal

abbrev pub invariant-loop-k : goal.invariant-loop-k
invariant-loop-k l = AreShut l.fn.rule l.edges l.edges l.spans l.k l.runs l.pieces.items
