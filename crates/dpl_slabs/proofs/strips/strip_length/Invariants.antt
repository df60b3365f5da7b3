use Rattle.dpl_slabs.proofs.StripLaws.{IsOpen}
use Rattle.dpl_slabs.proofs.strips.strip_length.Given as goal

abbrev pub invariant-loop-i : goal.invariant-loop-i
invariant-loop-i l = IsOpen l.rects l.i l.top
