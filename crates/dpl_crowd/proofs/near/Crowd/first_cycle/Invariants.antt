use Rattle.std.proofs.Common.{length}
use Rattle.dpl_crowd.specs.Crowds.{graph_in}
use Rattle.dpl_crowd.specs.Walking.{AreLevelsTo, ArePast, IsFront}
use Rattle.dpl_crowd.proofs.near.Crowd.first_cycle.Given as goal

abbrev pub invariant-loop-depth : goal.invariant-loop-depth
invariant-loop-depth l =
    record {
      levels : AreLevelsTo (graph_in l.self) 0 (length l.self.parts) l.depth l.walk.levels.items;
      front : IsFront l.depth l.walk.levels.items l.walk.front.items;
      past : ArePast (graph_in l.self) 0 l.at;
    }
