use Rattle.std.proofs.Common.{◌≡◌, ◌++◌, length}
use Rattle.std.specs.List.{AllByRecursion}
use Rattle.dpl_cert.specs.Lines.{lines}
use Rattle.dpl_spec_edits.specs.Text.{edit_lines, IsEdit}
use Rattle.dpl_edits.proofs.reading.read_edits.Given as goal

abbrev pub invariant-loop-n : goal.invariant-loop-n
invariant-loop-n l = record {
  len : length l.edits.items ≡ l.n;
  each : AllByRecursion IsEdit l.edits.items;
  so_far : lines l.bytes ≡ edit_lines l.edits.items ++ lines l.rest;
}
