use Rattle.std.proofs.Common.{◌≡◌, ◌++◌, length, map, reverse}
use Rattle.dpl_piece.specs.Pieces.{broken_piece}
use Rattle.dpl_piece.proofs.made.add_parts.Given as goal

abbrev pub invariant-loop-part : goal.invariant-loop-part
invariant-loop-part l = l.pieces.items ++ map (broken_piece l.number) (reverse l.parts.items) ≡ l.fn.pieces.items ++ map (broken_piece l.number) l.fn.parts.items

abbrev pub decreases-loop-part : goal.decreases-loop-part
decreases-loop-part l = length l.parts.items
