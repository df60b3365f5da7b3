use Rattle.std.proofs.Common.{arith}
use Rattle.dpl_spec_split.proofs.SideLaws.{some_zones}
use Rattle.dpl_test_cuts.proofs.bars.cut.Goals as goal

pub pieces-requires-clause-zones : goal.pieces-requires-clause-zones
pieces-requires-clause-zones c = (_, _, omega arith, some_zones _ _ _ _ _ _ c.in_ok-zones.ensures)
