use Rattle.std.proofs.Common.{take}
use Rattle.dpl_spec_elements.specs.Motions.{image}
use Rattle.dpl_walk.specs.Kept.{Keeps}
use Rattle.dpl_walk.proofs.gathered.gather_all.Given as goal

abbrev pub invariant-loop-outline : goal.invariant-loop-outline
invariant-loop-outline l = Keeps (take l.outline-index l.outlines) (image l.place) l.initial.gathered l.gathered
