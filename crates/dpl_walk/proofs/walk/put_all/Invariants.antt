use Rattle.std.proofs.Common.{◌≡◌, ◌++◌, map, take}
use Rattle.dpl_walk.specs.Walk.{frame_of}
use Rattle.dpl_walk.proofs.walk.put_all.Given as goal

abbrev pub invariant-loop-array : goal.invariant-loop-array
invariant-loop-array l = l.stack.items ≡ l.initial.stack.items ++ map (frame_of l.place) (take l.array-index l.copies)
