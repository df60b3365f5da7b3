use Rattle.std.proofs.Common.{rules, arith, w32, FitsSigned, to_z}
use Rattle.std.proofs.lemmas.Int.{ints, to_z-of_z}
use Rattle.dpl_join.specs.Pairs.{item_at}
use Rattle.dpl_join.specs.Strips.{LiesWithin}
use Rattle.dpl_join.proofs.StripLaws.{all-taken, rows-more}
use Rattle.dpl_join.proofs.ruling.rows_of.Goals as goal

pub loop-item-preserved : goal.loop-item-preserved
loop-item-preserved c =
    let low : FitsSigned w32 c.min-low.result = search rules in
    let top : FitsSigned w32 c.max-top.result = search rules in
    let higher : FitsSigned w32 c.max.result = search rules in
    let begin : FitsSigned w32 (item_at c.args.items.now c.loop-item.item-index).rect.y0 = search rules in
    let end : FitsSigned w32 (item_at c.args.items.now c.loop-item.item-index).rect.y1 = search rules in
    let row = rw (to_z-of_z w32 _ begin) at c.min-low.ensures.other_bound in
    let one = rw (to_z-of_z w32 _ begin) at c.max.ensures.self_bound in
    let two = rw (to_z-of_z w32 _ end) at c.max.ensures.other_bound in
    let max = rw (to_z-of_z w32 _ higher) at c.max-top.ensures.other_bound in
    rw (to_z-of_z w32 _ low, to_z-of_z w32 _ top)
    (rows-more c.args.items.now c.loop-item.item-index _ c.min-low.result _ c.max-top.result c.loop-item-test.true c.min-low.ensures.self_bound c.max-top.ensures.self_bound
    (record { low = row; begin = omega (arith, ints, one, max); end = omega (arith, ints, two, max) }) c.loop-item.invariant)

pub returns : goal.returns
returns c = all-taken (LiesWithin (to_z w32 c.loop-item.low-bits) (to_z w32 c.loop-item.top-bits)) c.args.items.now c.loop-item.item-index c.loop-item-test.false c.loop-item.invariant
