use Rattle.std.proofs.Common.{◌≡◌, length}
use Rattle.std.specs.List.{AllByRecursion}
use Rattle.dpl_cert.specs.Grammar.{IsNear}
use Rattle.dpl_answer.specs.Anchors.{marks_of}
use Rattle.dpl_answer.proofs.Told.{AreLinksFirst}
use Rattle.dpl_answer.proofs.vertices.link_lines.Given as goal

abbrev pub invariant-loop-k : goal.invariant-loop-k
invariant-loop-k l = record {
  each : length l.lines.items ≡ l.k;
  first : AreLinksFirst (marks_of l.marks) l.spacing l.pieces.parts l.cycle l.k l.lines.items;
  fits : AllByRecursion IsNear l.lines.items;
}
