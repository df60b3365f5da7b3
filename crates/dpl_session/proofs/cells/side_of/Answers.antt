use Rattle.std.proofs.Common.{arith}
use Rattle.std.proofs.lemmas.Int.{ints}
use Rattle.dpl_session.proofs.Grids.{at_start}
use Rattle.dpl_session.proofs.cells.side_of.Goals as goal

pub returns : goal.returns
returns c =
    let (side, wide) = c.requires in
    let is = at_start c.args.cells.now side c.index-cells-0.result wide c.index-cells-0.is in
    let few = wide.few in
    let a = c.x0.ensures in
    let b = c.x1.ensures in
    record { few = omega (arith, ints, is, few, a, b); some = wide.some; width = λ k d l. (let w = wide.width k d l in omega (arith, ints, w, is, few, a, b)) }
