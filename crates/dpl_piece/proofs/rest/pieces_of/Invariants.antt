use Rattle.std.proofs.Common.{◌≡◌, ◌++◌, length}
use Rattle.std.specs.Vec.Iter.{into_iter_items, into_iter_len}
use Rattle.dpl_piece.specs.Pieces.{AreZonesFrom}
use Rattle.dpl_piece.proofs.Adding.{AreAdded}
use Rattle.dpl_piece.proofs.rest.pieces_of.Given as goal

abbrev pub invariant-loop-feature : goal.invariant-loop-feature
invariant-loop-feature l =
    record {
      all : l.yielded ++ into_iter_items l.feature-iterator ≡ l.fn.features.items;
      left : into_iter_len l.feature-iterator ≡ length (into_iter_items l.feature-iterator);
      count : l.number ≡ length l.yielded;
      zones : AreZonesFrom l.zones l.number l.rest;
      added : AreAdded l.fn.features.items l.zones l.number l.place l.cutting;
    }
