use Rattle.std.proofs.Common.{◌-◌, ◌<◌, length, get_or}
use Rattle.dpl_tree.specs.declared.items.Item.{Item}
use Rattle.dpl_tree.specs.Trees.{IsLeftOut}
use Rattle.dpl_nearest.proofs.ItemLaws.{AreFarFrom}
use Rattle.dpl_nearest.proofs.rects.near_any.Given as goal

abbrev pub invariant-loop-n : goal.invariant-loop-n
invariant-loop-n l =
    record {
      here : (d : Item) → l.n < length l.others → ¬ IsLeftOut l.owners (get_or l.others l.n d).owner;
      far : AreFarFrom l.spacing l.owners l.r l.others l.n;
    }

abbrev pub decreases-loop-n : goal.decreases-loop-n
decreases-loop-n l = length l.others - l.n
