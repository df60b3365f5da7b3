use Rattle.std.proofs.Common.{◌≡◌, ◌-◌}
use Rattle.std.specs.List.{All}
use Rattle.dpl_slabs.specs.Made.{IsSwept}
use Rattle.dpl_slabs.proofs.swept.sweep_strips.Given as goal

abbrev pub invariant-loop-swept : goal.invariant-loop-swept
invariant-loop-swept g l =
    record {
      made : All (IsSwept l.rects) l.made.items;
      swept : IsSwept l.rects l.swept;
      start : l.swept.start ≡ l.start;
    }

abbrev pub decreases-loop-swept : goal.decreases-loop-swept
decreases-loop-swept g l = l.end - l.swept.end
