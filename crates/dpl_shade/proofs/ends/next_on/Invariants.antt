use Rattle.std.proofs.Common.{◌≡◌, ◌-◌, true}
use Rattle.dpl_join.specs.Pairs.{item_at}
use Rattle.dpl_shade.specs.Ends.{comes_before}
use Rattle.dpl_shade.proofs.ends.next_on.Given as goal

abbrev pub invariant-loop-k : goal.invariant-loop-k
invariant-loop-k l = comes_before (item_at l.items l.n).rect (item_at l.items (l.k - 1)).rect ≡ true
