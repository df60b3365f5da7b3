use Rattle.std.proofs.Common.{IfOk}
use Rattle.std.specs.List.{All}
use Rattle.dpl_slabs.specs.Made.{IsBlock}
use Rattle.dpl_slabs.proofs.ahead.blocks_by.Given as goal

abbrev pub invariant-loop-list : goal.invariant-loop-list
invariant-loop-list g l =
    record {
      made : All (IsBlock l.rects) l.made.items;
      left : All (λ r. IfOk r (λ v. All (IsBlock l.rects) v.items)) l.list-iterator.rest.items;
    }
