use Rattle.std.proofs.Common.{◌≡◌, map, take}
use Rattle.std.specs.List.{AllByRecursion}
use Rattle.dpl_cert.specs.Grammar.{IsPlace}
use Rattle.dpl_law_verdict.specs.Own.{place_line}
use Rattle.dpl_answer.proofs.lines.place_lines.Given as goal

abbrev pub invariant-loop-piece : goal.invariant-loop-piece
invariant-loop-piece l = record {
  put : l.lines.items ≡ map (place_line l.pieces.keys) (take l.piece-index l.cycle);
  fits : AllByRecursion IsPlace l.lines.items;
}
