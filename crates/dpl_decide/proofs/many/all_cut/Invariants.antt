use Rattle.std.proofs.Common.{◌≡◌, ◌++◌}
use Rattle.dpl_decide.specs.Waits.{AreWaiting}
use Rattle.dpl_decide.proofs.many.all_cut.Given as goal

-- the layers that were met wait
abbrev pub invariant-loop-layer : goal.invariant-loop-layer
invariant-loop-layer g l = (l.yielded ++ l.layer-iterator.rest.items ≡ l.fn.layers.items) × AreWaiting l.spacing l.overlap l.yielded l.waiting.items l.cuts.items
