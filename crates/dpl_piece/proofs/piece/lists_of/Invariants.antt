use Rattle.std.proofs.Common.{◌≡◌, ◌++◌, length, reverse}
use Rattle.dpl_sides.specs.Pieces.{parts_in}
use Rattle.dpl_piece.specs.Pieces.{owners_in}
use Rattle.dpl_piece.proofs.piece.lists_of.Given as goal

abbrev pub invariant-loop-piece : goal.invariant-loop-piece
invariant-loop-piece l =
    record {
      parts : l.parts.items ++ parts_in (reverse l.pieces.items) ≡ parts_in l.fn.pieces.items;
      owners : l.owners.items ++ owners_in (reverse l.pieces.items) ≡ owners_in l.fn.pieces.items;
    }

abbrev pub decreases-loop-piece : goal.decreases-loop-piece
decreases-loop-piece l = length l.pieces.items
