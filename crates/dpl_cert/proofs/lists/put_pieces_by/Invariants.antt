use Rattle.std.proofs.Common.{◌≡◌, ◌≤◌, ◌-◌, ◌++◌, length, take}
use Rattle.std.specs.Prelude.{string_bytes}
use Rattle.dpl_cert.specs.Lines.{text}
use Rattle.dpl_cert.specs.Grammar.{rows, piece_words}
use Rattle.dpl_cert.proofs.lists.put_pieces_by.Given as goal

abbrev pub invariant-loop-first : goal.invariant-loop-first
invariant-loop-first g l = record {
  within : l.first ≤ length l.pieces;
  put : string_bytes l.out ≡ string_bytes l.fn.out ++ text (rows piece_words 0 (take l.first l.pieces));
}

abbrev pub decreases-loop-first : goal.decreases-loop-first
decreases-loop-first g l = length l.pieces - l.first
