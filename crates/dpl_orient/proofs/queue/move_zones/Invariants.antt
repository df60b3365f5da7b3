use Rattle.std.proofs.Common.{take}
use Rattle.std.specs.BinaryHeap.{heap_items}
use Rattle.dpl_orient.specs.Tallies.{AllWait, IsQueue, AreMoved}
use Rattle.dpl_orient.proofs.queue.move_zones.Given as goal

abbrev pub invariant-loop-link : goal.invariant-loop-link
invariant-loop-link l = record {
  moved : AreMoved l.flips (take l.link-index l.links) l.initial.tallies l.tallies;
  queue : IsQueue (heap_items l.waiting);
  all : AllWait l.held l.tallies (heap_items l.waiting);
}
