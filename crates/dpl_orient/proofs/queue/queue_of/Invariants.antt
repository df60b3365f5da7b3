use Rattle.std.proofs.Common.{ℕ, ◌<◌}
use Rattle.std.specs.BinaryHeap.{heap_items}
use Rattle.dpl_orient.specs.Tallies.{GainsAt, IsQueue, Waits}
use Rattle.dpl_orient.proofs.queue.queue_of.Given as goal

abbrev pub invariant-loop-root : goal.invariant-loop-root
invariant-loop-root l = record {
  queue : IsQueue (heap_items l.waiting);
  all : (r : ℕ) → r < l.root → GainsAt l.held l.tallies r → Waits (heap_items l.waiting) r;
}
