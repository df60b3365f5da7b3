use Rattle.std.proofs.Common.{◌≡◌, ℕ, ◌≤◌, length}
use Rattle.dpl_feature.proofs.split.rooms_of.Given as goal

abbrev pub invariant-loop-i : goal.invariant-loop-i
invariant-loop-i l = record { sized : length l.rooms.items ≡ length l.parents; within : l.i ≤ length l.parents }

abbrev pub decreases-loop-i : goal.decreases-loop-i
decreases-loop-i l = l.i
