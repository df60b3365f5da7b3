use Rattle.std.proofs.Common.{map}
use Rattle.std.specs.BinaryHeap.{heap_items}
use Rattle.dpl_spec_fewer.specs.Fewer.{stitch_count}
use Rattle.dpl_orient.specs.Masks.{is_second}
use Rattle.dpl_orient.specs.Links.{letters_of}
use Rattle.dpl_orient.specs.Tallies.{AreTallies, IsQueue, AllWait}
use Rattle.dpl_orient.proofs.Gaining.{IsUnderway}
use Rattle.dpl_orient.proofs.reducing.final_flips.Given as goal

abbrev pub invariant-loop-root : goal.invariant-loop-root
invariant-loop-root l = record {
  underway : IsUnderway l.chart (map is_second l.masks) l.sides l.fn.fixed l.flips.items;
  tallies : AreTallies l.links.items l.flips.items l.tallies.items;
  queue : IsQueue (heap_items l.waiting);
  all : AllWait l.held l.tallies.items (heap_items l.waiting);
}

abbrev pub decreases-loop-root : goal.decreases-loop-root
decreases-loop-root l = stitch_count l.sides (letters_of l.chart (map is_second l.masks) l.flips.items)
