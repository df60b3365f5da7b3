use Rattle.std.proofs.Common.{◌++◌, take}
use Rattle.std.specs.List.Sorted.{IsPermutation}
use Rattle.dpl_slabs.proofs.slices.settle.Given as goal

abbrev pub invariant-loop-piece : goal.invariant-loop-piece
invariant-loop-piece l = IsPermutation (l.fn.done.items ++ take l.piece-index l.piece-items) (l.done.items ++ l.growing.items)
