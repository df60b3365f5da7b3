use Rattle.std.proofs.Common.{◌<◌}
use Rattle.std.specs.Prelude.{IfSome, vec_len}
use Rattle.dpl_odd.specs.Paths.{IsLeastLevel}
use Rattle.dpl_odd.proofs.level.least_level_edge.Given as goal

abbrev pub invariant-loop-edge : goal.invariant-loop-edge
invariant-loop-edge l = IfSome l.least (λ e. e.0 < vec_len l.levels.levels) × IsLeastLevel l.levels.roots.items l.levels.levels.items l.edges l.edge-index l.least
