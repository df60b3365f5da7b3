use Rattle.std.proofs.Common.{◌++◌, take}
use Rattle.std.specs.List.Sorted.{IsPermutation}
use Rattle.dpl_slabs.proofs.slices.set_aside.Given as goal

abbrev pub invariant-loop-piece : goal.invariant-loop-piece
invariant-loop-piece l = IsPermutation (l.fn.others.items ++ take l.piece-index l.piece-items) (l.others.items ++ l.starts.items)
