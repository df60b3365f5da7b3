use Rattle.dpl_law_verdict.proofs.Clashing.{clash-verdict}
use Rattle.dpl_law_verdict.proofs.own_cycles_are_valid.Goals as goal

pub returns : goal.returns
returns a = λ spacing overlap layer c cycle near cut reported pairs. clash-verdict spacing overlap layer c cycle near cut reported pairs
