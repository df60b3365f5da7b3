use Rattle.std.proofs.Common.{take}
use Rattle.dpl_run.specs.BatchMade.{AreDecidedFor}
use Rattle.dpl_run.proofs.batch.all_refused.Given as goal

-- the layers that were met have this fault
abbrev pub invariant-loop-layer : goal.invariant-loop-layer
invariant-loop-layer l = AreDecidedFor l.name l.at (take l._layer-index l.layers) l.decisions.items
