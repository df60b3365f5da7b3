use Rattle.std.proofs.Common.{◌≡◌, ◌≤◌, ◌⊎◌, ◌-◌, length}
use Rattle.dpl_sweep.specs.Spans.{AreSteps}
use Rattle.dpl_sweep.proofs.spans.steps_of.Given as goal

abbrev pub invariant-loop-k : goal.invariant-loop-k
invariant-loop-k l = ((l.k ≤ length l.ends) ⊎ (l.k ≡ 1)) × AreSteps l.ends (l.k - 1) l.spans.items
