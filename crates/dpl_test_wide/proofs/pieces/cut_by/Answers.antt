use Rattle.std.proofs.Common.{arith}
use Rattle.dpl_spec_split.proofs.SideLaws.{some_zones}
use Rattle.dpl_test_wide.proofs.pieces.cut_by.Goals as goal

pub bare_pieces_by-requires-clause-zones : goal.bare_pieces_by-requires-clause-zones
bare_pieces_by-requires-clause-zones g c κs within = (_, _, omega arith, some_zones _ _ _ _ _ _ c.in_ok-zones.ensures)
