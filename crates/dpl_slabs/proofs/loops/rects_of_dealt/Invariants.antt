use Rattle.dpl_slabs.specs.Loops.{AreRectsOf, SomeDealtCovers}
use Rattle.dpl_slabs.proofs.loops.rects_of_dealt.Given as goal

abbrev pub invariant-loop-i : goal.invariant-loop-i
invariant-loop-i l = AreRectsOf (SomeDealtCovers l.loops l.worker l.workers l.i) l.rects.items
