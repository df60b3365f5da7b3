use Rattle.std.proofs.Common.{◌≡◌, ◌-◌, ◌≤◌, length, map}
use Rattle.std.specs.Prelude.{All}
use Rattle.dpl_syntax.specs.Elements.{element_seen, IsSized}
use Rattle.dpl_syntax.specs.Passing.{Passes, elements_first, AreElements}
use Rattle.dpl_syntax.proofs.reader.Reader.add_elements.Given as goal

abbrev pub invariant-loop-element : goal.invariant-loop-element
invariant-loop-element l = record {
  bytes : l.self.bytes ≡ l.initial.self.bytes;
  on : l.initial.self.at ≤ l.self.at;
  sized : All IsSized l.elements.items;
  passes : Passes l.initial.self.bytes.now elements_first elements_first (AreElements (map element_seen l.elements.items)) l.initial.self.at l.self.at;
}

abbrev pub decreases-loop-element : goal.decreases-loop-element
decreases-loop-element l = length l.self.bytes.now - l.self.at
