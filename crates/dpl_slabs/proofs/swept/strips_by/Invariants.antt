use Rattle.std.proofs.Common.{IfOk}
use Rattle.std.specs.List.{All}
use Rattle.dpl_slabs.specs.Made.{IsSwept}
use Rattle.dpl_slabs.proofs.swept.strips_by.Given as goal

abbrev pub invariant-loop-swept : goal.invariant-loop-swept
invariant-loop-swept g l =
    record {
      made : All (IsSwept l.rects) l.made.items;
      left : All (λ r. IfOk r (IsSwept l.rects)) l.swept-iterator.rest.items;
    }
