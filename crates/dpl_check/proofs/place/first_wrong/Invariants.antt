use Rattle.std.proofs.Common.{length}
use Rattle.dpl_spec_verdict.specs.Conflicts.{IsBadPlace}
use Rattle.dpl_check.specs.Anchors.{marks_of}
use Rattle.dpl_check.specs.Places.{AreNoted, bare}
use Rattle.dpl_check.proofs.Finding.{NoneBelow}
use Rattle.dpl_check.proofs.place.first_wrong.Given as goal

abbrev pub invariant-loop-k : goal.invariant-loop-k
invariant-loop-k l = record {
  good : NoneBelow (IsBadPlace (marks_of l.marks) l.spacing (bare l.cut.pieces) l.cycle l.near) l.cycle l.k;
  noted : AreNoted (length l.cut.pieces.parts) l.cycle l.k l.stood;
}
