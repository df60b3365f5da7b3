use Rattle.std.specs.List.{All}
use Rattle.dpl_slabs.specs.Made.{IsSlice}
use Rattle.dpl_slabs.proofs.made.slices_from.Given as goal

abbrev pub invariant-loop-high : goal.invariant-loop-high
invariant-loop-high l = All (IsSlice l.rects l.holes) l.made.items
