use Rattle.std.proofs.Common.{refl, arith}
use Rattle.dpl_links.proofs.PartLaws.{closed_more}
use Rattle.dpl_links.proofs.levels.close_all.Goals as goal

pub loop-vertex-preserved : goal.loop-vertex-preserved
loop-vertex-preserved c =
    let vs = c.args.vertices.now in
    let i = c.loop-vertex.vertex-index in
    let a = c.requires.closed c.loop-vertex.vertex-index 0 c.loop-vertex-test.true in
    let b = c.requires.levels c.loop-vertex.vertex-index 0 c.loop-vertex-test.true in
    closed_more c.args.vertices.now c.loop-vertex.vertex-index c.args.level c.args.closed.now.items c.loop-vertex.closed.items _
    c.args.levels.now.items c.loop-vertex.levels.items _ c.loop-vertex-test.true
    (omega (arith, a, c.loop-vertex.invariant.each)) (omega (arith, b, c.loop-vertex.invariant.levels_each)) refl refl c.loop-vertex.invariant
