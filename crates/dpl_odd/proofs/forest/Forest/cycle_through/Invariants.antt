use Rattle.std.specs.Prelude.{vec_len, slice_index}
use Rattle.dpl_odd.proofs.PathLaws.{IsClimbing}
use Rattle.dpl_odd.proofs.forest.Forest.cycle_through.Given as goal

abbrev pub invariant-loop-top : goal.invariant-loop-top
invariant-loop-top l = IsClimbing (vec_len l.self.levels.levels) l.self.levels.roots.items l.self.levels.levels.items l.self.parents.items
    l.u l.v l.top l.other l.cycle.items l.rest.items

abbrev pub decreases-loop-top : goal.decreases-loop-top
decreases-loop-top l = slice_index l.self.levels.levels.items l.top
