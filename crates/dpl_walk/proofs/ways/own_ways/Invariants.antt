use Rattle.std.proofs.Common.{◌≡◌, length}
use Rattle.dpl_walk.proofs.ShortLaws.{AreOwn}
use Rattle.dpl_walk.proofs.ways.own_ways.Given as goal

abbrev pub invariant-loop-structure : goal.invariant-loop-structure
invariant-loop-structure l = record { each : length l.ways.items ≡ l.structure; own : AreOwn l.ways.items }
