use Rattle.std.proofs.Common.{◌≡◌, List, length, map}
use Rattle.dpl_orient.specs.Masks.{is_second}
use Rattle.dpl_piece.specs.declared.piece.Whole.{Whole}
use Rattle.dpl_masks.specs.Inks.{AreInksTo}
use Rattle.dpl_masks.proofs.ink.note_pieces.Given as goal

abbrev pub invariant-loop-k : goal.invariant-loop-k
invariant-loop-k l = record {
  each : length l.inks.items ≡ length l.fn.inks.items;
  inked : (wholes : List Whole) → AreInksTo 0 (length l.fn.inks.items) l.owners (map is_second l.colours) wholes l.fn.inks.items
      → AreInksTo l.k (length l.fn.inks.items) l.owners (map is_second l.colours) wholes l.inks.items;
}
