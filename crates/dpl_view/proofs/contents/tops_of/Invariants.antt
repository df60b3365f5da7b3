use Rattle.std.proofs.Common.{◌≡◌, map, take}
use Rattle.dpl_view.specs.declared.contents.Top.{Top}
use Rattle.dpl_view.proofs.contents.tops_of.Given as goal

abbrev pub invariant-loop-number : goal.invariant-loop-number
invariant-loop-number l = map (λ (t : Top). t.number) l.tops.items ≡ take l.number-index l.number-items
