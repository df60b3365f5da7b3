use Rattle.std.proofs.Common.{◌<◌, length, get_or, rules, w32, arith, FitsSigned}
use Rattle.std.specs.Prelude.{pos}
use Rattle.std.proofs.lemmas.Int.{ints, to_z-of_z}
use Rattle.std.proofs.lemmas.List.{take_all}
use Rattle.dpl_sweep.specs.declared.edge.Edge.{Edge}
use Rattle.dpl_order.proofs.Orders.{min-above}
use Rattle.dpl_sweep.proofs.FewLaws.{outside-more, outside-next}
use Rattle.dpl_sweep.proofs.few.next_row.Goals as goal

abbrev zero : Edge
zero = record { x = pos 0; y0 = pos 0; y1 = pos 0; a = pos 0; b = pos 0 }

pub loop-edge-preserved : goal.loop-edge-preserved
loop-edge-preserved c =
    let here : c.loop-edge.edge-index < length c.args.edges.now = search rules in
    let e : Edge = get_or c.args.edges.now c.loop-edge.edge-index zero in
    let y0 : FitsSigned w32 e.y0 = search rules in
    let y1 : FitsSigned w32 e.y1 = search rules in
    let f : FitsSigned w32 c.row_above-first.result = search rules in
    let l : FitsSigned w32 c.row_above-last.result = search rules in
    let m : FitsSigned w32 c.min.result = search rules in
    let n : FitsSigned w32 c.min-next.result = search rules in
    let row = to_z-of_z w32 c.args.row c.ranges.row in
    let first = rw (row, to_z-of_z w32 e.y0 y0) at c.row_above-first.ensures.known in
    let last = rw (row, to_z-of_z w32 e.y1 y1) at c.row_above-last.ensures.known in
    let a = c.min.ensures.self_bound in
    let b = rw (to_z-of_z w32 c.row_above-first.result f) at c.min.ensures.other_bound in
    let d = rw (to_z-of_z w32 c.min.result m) at c.min-next.ensures.self_bound in
    let g = rw (to_z-of_z w32 c.row_above-last.result l) at c.min-next.ensures.other_bound in
    let above = rw row at c.row_above-first.ensures.above in
    let over = rw row at c.row_above-last.ensures.above in
    let least = rw (to_z-of_z w32 c.row_above-first.result f) at c.min.ensures.value in
    let second = rw (to_z-of_z w32 c.min.result m, to_z-of_z w32 c.row_above-last.result l) at c.min-next.ensures.value in
    let under = rw row at c.loop-edge.invariant.0 in
    let i = c.loop-edge.invariant.1 in
    rw (row, to_z-of_z w32 c.min-next.result n) (
      rw second (min-above c.args.row c.min.result c.row_above-last.result (rw least (min-above c.args.row _ c.row_above-first.result under above)) over),
      omega (arith, ints, a, d, i),
      outside-more c.args.edges.now c.loop-edge.edge-index zero c.args.row _ c.min-next.result here (omega (arith, ints, a, d))
          (outside-next c.args.row c.min-next.result c.row_above-first.result c.row_above-last.result e first last
          (omega (arith, ints, b, d)) g) (rw row at c.loop-edge.invariant.2),
    )

pub returns-clause-none : goal.returns-clause-none
returns-clause-none c =
    rw (to_z-of_z w32 c.args.row c.ranges.row, take_all c.loop-edge.edge-index c.args.edges.now (omega arith)) at c.loop-edge.invariant.2
