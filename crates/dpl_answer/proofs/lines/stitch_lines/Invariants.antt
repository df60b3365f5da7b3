use Rattle.std.proofs.Common.{◌≡◌, map, take}
use Rattle.std.specs.List.{AllByRecursion}
use Rattle.dpl_cert.specs.Grammar.{IsStitch}
use Rattle.dpl_law_verdict.specs.Own.{stitch_line}
use Rattle.dpl_answer.proofs.lines.stitch_lines.Given as goal

abbrev pub invariant-loop-k : goal.invariant-loop-k
invariant-loop-k l = record {
  put : l.lines.items ≡ map (stitch_line l.zones l.sides) (take l.k-index l.stitches);
  fits : AllByRecursion IsStitch l.lines.items;
}
