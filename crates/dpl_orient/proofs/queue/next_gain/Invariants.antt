use Rattle.std.specs.BinaryHeap.{heap_items, heap_len}
use Rattle.dpl_orient.specs.Tallies.{AllWait, IsQueue}
use Rattle.dpl_orient.proofs.queue.next_gain.Given as goal

abbrev pub invariant-loop-root : goal.invariant-loop-root
invariant-loop-root l = record {
  queue : IsQueue (heap_items l.waiting);
  all : AllWait l.held l.tallies (heap_items l.waiting);
}

abbrev pub decreases-loop-root : goal.decreases-loop-root
decreases-loop-root l = heap_len l.waiting
