use Rattle.std.proofs.Common.{◌≡◌, map, take}
use Rattle.dpl_flatten.specs.Totals.{capped_points}
use Rattle.dpl_flatten.proofs.placed.counts_by.Given as goal

abbrev pub invariant-loop-layer : goal.invariant-loop-layer
invariant-loop-layer l = l.counts.items ≡ map (capped_points l.lib l.top) (take l.layer-index l.layers)
