use Rattle.std.proofs.Common.{◌≡◌, length}
use Rattle.std.specs.List.{AllByRecursion}
use Rattle.dpl_cert.specs.Grammar.{IsNear}
use Rattle.dpl_answer.proofs.NearLines.{AreNearestFirst}
use Rattle.dpl_answer.proofs.near.near_lines.Given as goal

abbrev pub invariant-loop-k : goal.invariant-loop-k
invariant-loop-k l = record {
  each : length l.lines.items ≡ l.k;
  first : AreNearestFirst l.spacing l.pieces.parts l.cycle l.k l.lines.items;
  fits : AllByRecursion IsNear l.lines.items;
}
