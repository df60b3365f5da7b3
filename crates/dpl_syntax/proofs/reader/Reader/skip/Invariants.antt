use Rattle.std.proofs.Common.{◌≡◌, ◌-◌, length}
use Rattle.dpl_syntax.specs.Passing.{PassesSkips, skips_then}
use Rattle.dpl_syntax.proofs.reader.Reader.skip.Given as goal

abbrev pub invariant-loop-record : goal.invariant-loop-record
invariant-loop-record l = record {
  bytes : l.self.bytes ≡ l.initial.self.bytes;
  passes : PassesSkips l.initial.self.bytes.now skips_then l.initial.self.at l.self.at;
}

abbrev pub decreases-loop-record : goal.decreases-loop-record
decreases-loop-record l = length l.self.bytes.now - l.self.at
