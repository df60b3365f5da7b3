use Rattle.std.proofs.Common.{◌≡◌, length}
use Rattle.dpl_join.proofs.ruling.sizes_of.Given as goal

abbrev pub invariant-loop-item : goal.invariant-loop-item
invariant-loop-item l = length l.sizes.items ≡ l.count

abbrev pub invariant-loop-k : goal.invariant-loop-k
invariant-loop-k l = length l.sizes.items ≡ l.count
