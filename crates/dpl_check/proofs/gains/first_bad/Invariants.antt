use Rattle.dpl_check.proofs.Gaining.{NoneBad}
use Rattle.dpl_check.proofs.gains.first_bad.Given as goal

abbrev pub invariant-loop-k : goal.invariant-loop-k
invariant-loop-k l = NoneBad l.found l.lines l.k
