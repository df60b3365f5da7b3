use Rattle.std.proofs.Common.{arith}
use Rattle.dpl_tile.proofs.TileLaws.{doubled-twice}
use Rattle.dpl_tile.proofs.least.side_for.Goals as goal

pub loop-side-preserved : goal.loop-side-preserved
loop-side-preserved c =
    let twice = c.in-Some.ensures.1 in
    let some = c.loop-side.invariant.some in
    record { some = omega (arith, some, twice); doubled = doubled-twice c.args.tile c.loop-side.side c.in-Some.twice twice c.loop-side.invariant.doubled }
