use Rattle.dpl_spec_split.specs.Squares.{Covers}
use Rattle.dpl_zone.proofs.MarkedLaws.{AreUnmarked}
use Rattle.dpl_zone.proofs.marked.unmarked.Given as goal

abbrev pub invariant-loop-z : goal.invariant-loop-z
invariant-loop-z l = AreUnmarked (Covers l.marked) l.z-items l.z-index l.kept.items
