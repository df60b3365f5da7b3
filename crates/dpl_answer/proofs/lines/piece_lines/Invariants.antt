use Rattle.std.proofs.Common.{◌≡◌, map, take}
use Rattle.std.specs.List.{AllByRecursion, zip}
use Rattle.dpl_orient.specs.Masks.{is_second}
use Rattle.dpl_cert.specs.Grammar.{IsPiece}
use Rattle.dpl_law_verdict.specs.Own.{piece_line}
use Rattle.dpl_answer.proofs.lines.piece_lines.Given as goal

abbrev pub invariant-loop-i : goal.invariant-loop-i
invariant-loop-i l = record {
  put : l.lines.items ≡ map piece_line (zip (take l.i (map is_second l.masks)) l.pieces.keys);
  fits : AllByRecursion IsPiece l.lines.items;
}
