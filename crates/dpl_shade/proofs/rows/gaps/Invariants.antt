use Rattle.dpl_shade.specs.Walks.{IsWalked}
use Rattle.dpl_shade.proofs.rows.gaps.Given as goal

abbrev pub invariant-loop-s : goal.invariant-loop-s
invariant-loop-s l = IsWalked l.low l.high l.spans l.s-index l.at l.free.items
