use Rattle.std.proofs.Common.{IfOk}
use Rattle.std.specs.List.{All}
use Rattle.dpl_slabs.specs.Made.{IsSlice}
use Rattle.dpl_slabs.proofs.made.made_by.Given as goal

abbrev pub invariant-loop-list : goal.invariant-loop-list
invariant-loop-list g l =
    record {
      made : All (IsSlice l.rects l.holes) l.made.items;
      left : All (λ r. IfOk r (λ v. All (IsSlice l.rects l.holes) v.items)) l.list-iterator.rest.items;
    }
