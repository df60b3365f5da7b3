use Rattle.std.proofs.Common.{◌+◌, ◌≤◌, length, map}
use Rattle.std.specs.Prelude.{vec_len, vec_capacity}
use Rattle.dpl_tree.specs.StoredItems.{item_of}
use Rattle.dpl_tree.proofs.ItemLaws.{AddsRects}
use Rattle.dpl_tree.proofs.items.add_rects.Given as goal

abbrev pub invariant-loop-rect : goal.invariant-loop-rect
invariant-loop-rect l =
    record {
      added : AddsRects l.owner l.rects l.rect-index (map item_of l.initial.items.items) (map item_of l.items.items);
      room : vec_len l.items + length l.rects ≤ vec_capacity l.items + l.rect-index;
    }
