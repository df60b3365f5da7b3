use Rattle.dpl_law_verdict.proofs.Cycles.{there-is}
use Rattle.dpl_law_verdict.proofs.valid_conflicts_are_there.Goals as goal

pub returns : goal.returns
returns c = λ marks spacing overlap layer head cycle near cert valid. there-is marks spacing overlap (record { layer = layer; head = head; cycle = cycle; near = near }) cert.1 cert.3 valid
