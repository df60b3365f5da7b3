use Rattle.dpl_odd.specs.Tables.{AreLeastLevels}
use Rattle.dpl_odd.proofs.table.least_level_edges.Given as goal

abbrev pub invariant-loop-edge : goal.invariant-loop-edge
invariant-loop-edge l = AreLeastLevels l.levels.roots.items l.levels.levels.items l.edges l.edge-index l.least.items
