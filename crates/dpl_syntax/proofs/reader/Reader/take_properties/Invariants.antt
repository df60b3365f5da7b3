use Rattle.std.proofs.Common.{◌≡◌, ◌-◌, ◌≤◌, length}
use Rattle.dpl_syntax.specs.Passing.{Passes, property_first, AreProperties}
use Rattle.dpl_syntax.proofs.reader.Reader.take_properties.Given as goal

abbrev pub invariant-loop-self : goal.invariant-loop-self
invariant-loop-self l = record {
  bytes : l.self.bytes ≡ l.initial.self.bytes;
  on : l.initial.self.at ≤ l.self.at;
  passes : Passes l.initial.self.bytes.now property_first property_first AreProperties l.initial.self.at l.self.at;
}

abbrev pub decreases-loop-self : goal.decreases-loop-self
decreases-loop-self l = length l.self.bytes.now - l.self.at
