use Rattle.std.proofs.Common.{◌≡◌, ◌++◌}
use Rattle.dpl_masks.specs.Bytes.{boundaries_bytes}
use Rattle.dpl_demo.specs.Demo.{bars, opening_bytes, number_of}
use Rattle.dpl_demo.proofs.layout.demo_bytes.Given as goal

abbrev pub invariant-loop-row : goal.invariant-loop-row
invariant-loop-row l = record {
  number : l.number ≡ number_of l.seed l.row;
  bytes : l.out.items ≡ opening_bytes ++ boundaries_bytes 1 (bars l.seed l.row);
}
