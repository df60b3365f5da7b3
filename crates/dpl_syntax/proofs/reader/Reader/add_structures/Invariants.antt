use Rattle.std.proofs.Common.{◌≡◌, ◌-◌, ◌*◌, ◌≤◌, length, []}
use Rattle.indexmap.specs.IndexMap.{index_map_len}
use Rattle.dpl_syntax.specs.Libraries.{structures_seen, IsSizedEach}
use Rattle.dpl_syntax.specs.Passing.{PassesNamed, structures_first, AreStructures}
use Rattle.dpl_syntax.proofs.reader.Reader.add_structures.Given as goal

abbrev pub invariant-loop-bgnstr : goal.invariant-loop-bgnstr
invariant-loop-bgnstr l = record {
  bytes : l.self.bytes ≡ l.initial.self.bytes;
  sized : IsSizedEach l.structures.entries;
  few : 4 * index_map_len l.structures ≤ l.self.at;
  passes : PassesNamed l.initial.self.bytes.now [] structures_first structures_first
      (AreStructures l.initial.self.bytes.now (structures_seen l.structures.entries)) l.initial.self.at l.self.at;
}

abbrev pub decreases-loop-bgnstr : goal.decreases-loop-bgnstr
decreases-loop-bgnstr l = length l.self.bytes.now - l.self.at
