use Rattle.dpl_piece.proofs.Piles.{none-made}
use Rattle.std.proofs.lemmas.Result.{IfOk-from_err}
use Rattle.dpl_piece.proofs.cut.bare_pieces.Goals as goal

pub returns-in_err-sorted-clause-zones : goal.returns-in_err-sorted-clause-zones
returns-in_err-sorted-clause-zones c = IfOk-from_err _ _ c.from_residual.ensures.0

pub returns-in_err-sorted-clause-pieces : goal.returns-in_err-sorted-clause-pieces
returns-in_err-sorted-clause-pieces c = IfOk-from_err _ _ c.from_residual.ensures.0

pub returns-in_err-sorted-clause-stand : goal.returns-in_err-sorted-clause-stand
returns-in_err-sorted-clause-stand c = IfOk-from_err _ _ c.from_residual.ensures.0

pub returns-clause-zones : goal.returns-clause-zones
returns-clause-zones c = c.bare_of.ensures.zones

pub returns-clause-pieces : goal.returns-clause-pieces
returns-clause-pieces c = c.bare_of.ensures.pieces

pub returns-clause-stand : goal.returns-clause-stand
returns-clause-stand c = c.bare_of.ensures.stand

pub bare_of-requires-clause-features : goal.bare_of-requires-clause-features
bare_of-requires-clause-features c = c.requires.features

pub bare_of-requires-clause-zones : goal.bare_of-requires-clause-zones
bare_of-requires-clause-zones c = c.requires.zones

pub bare_of-requires-clause-sorted : goal.bare_of-requires-clause-sorted
bare_of-requires-clause-sorted c = rw c.deref.ensures.value at c.in_ok-sorted.ensures

pub bare_of-requires-clause-made : goal.bare_of-requires-clause-made
bare_of-requires-clause-made c = rw c.new.ensures.items (none-made c.args.features c.args.zones.items)
