use Rattle.std.proofs.Common.{◌≡◌, map, take}
use Rattle.dpl_view.specs.declared.counts.LayerCounts.{LayerCounts}
use Rattle.dpl_view.proofs.contents.layers_in.Given as goal

abbrev pub invariant-loop-entry : goal.invariant-loop-entry
invariant-loop-entry l = l.found.items ≡ map (λ (x : LayerCounts). x.layer) (take l.entry-index l.layers)
