use Rattle.std.proofs.Common.{arith}
use Rattle.std.proofs.lemmas.Result.{IfOk-from_err}
use Rattle.dpl_flatten.proofs.FoundLaws.{top_marked}
use Rattle.dpl_flatten.proofs.PlacedLaws.{bare_targets, all_taken, cells_known, cells_deep, order_of, trimmed}
use Rattle.dpl_flatten.proofs.DrawingLaws.{laid_out}
use Rattle.dpl_flatten.proofs.drawing.draw_all.Goals as goal

pub make_cells-requires-clause-bare : goal.make_cells-requires-clause-bare
make_cells-requires-clause-bare c = rw c.as_slice.ensures.value
    (bare_targets c.args.lib.now c.args.layer c.args.links.now.graph.now c.args.links.now.marks.now c.args.survey.totals.items
    c.requires.links c.requires.totals)

pub make_cells-requires-clause-taken : goal.make_cells-requires-clause-taken
make_cells-requires-clause-taken c = all_taken c.args.lib.now c.args.layer c.args.links.now.graph.now c.args.top c.args.links.now.marks.now
    c.requires.links c.requires.reached c.requires.small.sound.drawn

pub invariant_of-result : goal.invariant_of-result
invariant_of-result c = record {
  known = cells_known c.args.lib.now c.args.layer c.args.links.now.graph.now c.args.links.now.marks.now c.in_ok-cells.cells.items c.requires.links c.in_ok-cells.ensures;
  deep = cells_deep c.args.lib.now c.args.layer c.args.links.now.graph.now c.args.links.now.marks.now c.in_ok-cells.cells.items
      c.requires.links c.in_ok-cells.ensures c.args.survey.order.levels.items c.args.survey.order.vertices.items c.requires.order;
  few = omega (arith, c.in_ok-cells.ensures.each, c.requires.few);
  order = order_of c.args.lib.now c.args.layer c.args.links.now.graph.now c.args.links.now.marks.now c.in_ok-cells.cells.items
      c.requires.links c.in_ok-cells.ensures c.args.survey.order.levels.items c.args.survey.order.vertices.items c.requires.order;
  top = omega (arith, c.in_ok-cells.ensures.each, c.requires.top);
}

pub returns-clause-trimmed : goal.returns-clause-trimmed
returns-clause-trimmed c = trimmed c.args.lib.now c.args.layer c.args.links.now.marks.now c.in_ok-cells.cells.items c.args.top
    c.args.survey.order.vertices.items c.in_ok-cells.ensures

pub returns-clause-drawing : goal.returns-clause-drawing
returns-clause-drawing c = laid_out c.args.lib.now c.args.layer c.args.links.now.graph.now c.args.links.now.marks.now
    c.in_ok-cells.cells.items c.requires.links c.in_ok-cells.ensures c.args.top
    (top_marked c.args.lib.now c.args.links.now.graph.now c.args.top c.args.links.now.marks.now c.requires.links.graph_of c.requires.reached) c.requires.small

pub returns-in_err-cells-clause-drawing : goal.returns-in_err-cells-clause-drawing
returns-in_err-cells-clause-drawing c = IfOk-from_err _ _ c.from_residual.ensures.0

pub returns-in_err-cells-clause-trimmed : goal.returns-in_err-cells-clause-trimmed
returns-in_err-cells-clause-trimmed c = IfOk-from_err _ _ c.from_residual.ensures.0
