use Rattle.std.proofs.Common.{take}
use Rattle.dpl_sweep.specs.Spans.{AreReady}
use Rattle.dpl_sweep.proofs.spans.pieces_by_spans.Given as goal

abbrev pub invariant-loop-i : goal.invariant-loop-i
invariant-loop-i l = AreReady l.rule (take l.i l.edges) l.edges l.spans l.runs.items l.pieces.items
