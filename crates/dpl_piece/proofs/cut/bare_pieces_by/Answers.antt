use Rattle.std.proofs.lemmas.Result.{IfOk-from_err}
use Rattle.dpl_piece.proofs.cut.bare_pieces_by.Goals as goal

pub made_by-requires-clause-within : goal.made_by-requires-clause-within
made_by-requires-clause-within g c κs within = rw c.items.ensures.value c.items.ensures.parts.within

pub bare_of-requires-clause-made : goal.bare_of-requires-clause-made
bare_of-requires-clause-made g c = rw (c.items.ensures.value, c.deref-2.ensures.value) at c.in_ok-made.ensures

pub returns-in_err-sorted-clause-zones : goal.returns-in_err-sorted-clause-zones
returns-in_err-sorted-clause-zones g c = IfOk-from_err _ _ c.from_residual.ensures.0

pub returns-in_err-sorted-clause-pieces : goal.returns-in_err-sorted-clause-pieces
returns-in_err-sorted-clause-pieces g c = IfOk-from_err _ _ c.from_residual.ensures.0

pub returns-in_err-sorted-clause-stand : goal.returns-in_err-sorted-clause-stand
returns-in_err-sorted-clause-stand g c = IfOk-from_err _ _ c.from_residual.ensures.0

pub returns-in_err-made-clause-zones : goal.returns-in_err-made-clause-zones
returns-in_err-made-clause-zones g c = IfOk-from_err _ _ c.from_residual-in_err-made.ensures.0

pub returns-in_err-made-clause-pieces : goal.returns-in_err-made-clause-pieces
returns-in_err-made-clause-pieces g c = IfOk-from_err _ _ c.from_residual-in_err-made.ensures.0

pub returns-in_err-made-clause-stand : goal.returns-in_err-made-clause-stand
returns-in_err-made-clause-stand g c = IfOk-from_err _ _ c.from_residual-in_err-made.ensures.0

pub returns-then-workers-lt2-clause-zones : goal.returns-then-workers-lt2-clause-zones
returns-then-workers-lt2-clause-zones g c = c.bare_pieces.ensures.zones

pub returns-then-workers-lt2-clause-pieces : goal.returns-then-workers-lt2-clause-pieces
returns-then-workers-lt2-clause-pieces g c = c.bare_pieces.ensures.pieces

pub returns-then-workers-lt2-clause-stand : goal.returns-then-workers-lt2-clause-stand
returns-then-workers-lt2-clause-stand g c = c.bare_pieces.ensures.stand

pub returns-clause-zones : goal.returns-clause-zones
returns-clause-zones g c = c.bare_of.ensures.zones

pub returns-clause-pieces : goal.returns-clause-pieces
returns-clause-pieces g c = c.bare_of.ensures.pieces

pub returns-clause-stand : goal.returns-clause-stand
returns-clause-stand g c = c.bare_of.ensures.stand

pub bare_pieces-requires-clause-features : goal.bare_pieces-requires-clause-features
bare_pieces-requires-clause-features g c = c.requires.features

pub bare_pieces-requires-clause-zones : goal.bare_pieces-requires-clause-zones
bare_pieces-requires-clause-zones g c = c.requires.zones

pub made_by-requires-clause-features : goal.made_by-requires-clause-features
made_by-requires-clause-features g c κs within = rw c.items.ensures.value c.requires.features

pub made_by-requires-clause-zones : goal.made_by-requires-clause-zones
made_by-requires-clause-zones g c κs within = rw (c.items.ensures.value, c.deref-2.ensures.value) c.requires.zones

pub made_by-requires-clause-sorted : goal.made_by-requires-clause-sorted
made_by-requires-clause-sorted g c κs within = rw (c.deref-2.ensures.value, c.deref-3.ensures.value) (rw c.deref.ensures.value at c.in_ok-sorted.ensures)

pub bare_of-requires-clause-features : goal.bare_of-requires-clause-features
bare_of-requires-clause-features g c = c.requires.features

pub bare_of-requires-clause-zones : goal.bare_of-requires-clause-zones
bare_of-requires-clause-zones g c = c.requires.zones

pub bare_of-requires-clause-sorted : goal.bare_of-requires-clause-sorted
bare_of-requires-clause-sorted g c = rw c.deref.ensures.value at c.in_ok-sorted.ensures
