use Rattle.std.proofs.Common.{ℕ, refl, arith}
use Rattle.dpl_odd.specs.Paths.{edge_at}
use Rattle.dpl_odd.proofs.LevelLaws.{level-step, lesser-inside}
use Rattle.dpl_odd.proofs.level.least_level_edge.Goals as goal

pub loop-edge-preserved : goal.loop-edge-preserved
loop-edge-preserved c =
    let roots = c.args.levels.now.roots in
    let levels = c.args.levels.now.levels in
    let i : ℕ = c.loop-edge.edge-index in
    let e : ℕ × ℕ = edge_at c.args.edges.now i in
    let below = c.requires.below i (0, 0) c.loop-edge-test.true in (
      lesser-inside roots.items levels.items _ e c.lesser-least.ensures (omega (arith, below.0, below.1)) c.loop-edge.invariant.0,
      level-step roots.items levels.items c.args.edges.now i e refl c.lesser-least.ensures c.loop-edge.invariant.1,
    )
