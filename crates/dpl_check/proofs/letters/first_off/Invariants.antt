use Rattle.dpl_check.specs.Findings.{IsOffMask}
use Rattle.dpl_check.proofs.Finding.{NoneBelow}
use Rattle.dpl_check.proofs.letters.first_off.Given as goal

abbrev pub invariant-loop-k : goal.invariant-loop-k
invariant-loop-k l = NoneBelow (IsOffMask l.a l.b) l.pieces l.k
