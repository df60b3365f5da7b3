use Rattle.std.proofs.Common.{◌≡◌, ℕ, map, take}
use Rattle.std.specs.List.{AllByRecursion}
use Rattle.dpl_cert.specs.Grammar.{IsPlace}
use Rattle.dpl_answer.specs.Anchors.{place_of, vertex_of}
use Rattle.dpl_answer.proofs.vertices.vertex_lines.Given as goal

abbrev pub invariant-loop-number : goal.invariant-loop-number
invariant-loop-number l = record {
  put : l.lines.items ≡ map (λ (k : ℕ). place_of l.pieces.keys (vertex_of k)) (take l.number-index l.cycle);
  fits : AllByRecursion IsPlace l.lines.items;
}
