use Rattle.std.proofs.Common.{take}
use Rattle.dpl_walk.specs.Ways.{HasWays, AreWhole, AreBehind}
use Rattle.dpl_walk.proofs.ShortLaws.{AreOwnBeside}
use Rattle.dpl_walk.proofs.ways.find_ways.Given as goal

abbrev pub invariant-loop-structure : goal.invariant-loop-structure
invariant-loop-structure l = record {
  ways : HasWays l.cells l.ways.items;
  whole : AreBehind l.cells l.order → AreWhole l.cells l.ways.items (take l.structure-index l.order);
  own : AreOwnBeside l.ways.items (take l.structure-index l.order);
}
