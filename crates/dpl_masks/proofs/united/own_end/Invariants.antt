use Rattle.std.proofs.Common.{◌≡◌, ℕ, ◌<◌, ◌≤◌, get_or}
use Rattle.dpl_masks.specs.declared.rest.Patch.{Patch}
use Rattle.dpl_masks.proofs.united.own_end.Given as goal

abbrev pub invariant-loop-k : goal.invariant-loop-k
invariant-loop-k l = (j : ℕ) (d : Patch) → l.start ≤ j → j < l.k → (get_or l.patches j d).feature ≡ (get_or l.patches l.start d).feature
