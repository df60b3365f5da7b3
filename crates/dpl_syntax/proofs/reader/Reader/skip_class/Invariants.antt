use Rattle.std.proofs.Common.{◌≡◌, ◌-◌, ◌≤◌, length, []}
use Rattle.dpl_syntax.specs.Passing.{Passes, class_first, AreElements}
use Rattle.dpl_syntax.proofs.reader.Reader.skip_class.Given as goal

abbrev pub invariant-loop : goal.invariant-loop
invariant-loop l = record {
  bytes : l.self.bytes ≡ l.initial.self.bytes;
  on : l.initial.self.at ≤ l.self.at;
  passes : Passes l.initial.self.bytes.now class_first class_first (AreElements []) l.initial.self.at l.self.at;
}

abbrev pub decreases-loop : goal.decreases-loop
decreases-loop l = length l.self.bytes.now - l.self.at
