use Rattle.std.proofs.lemmas.Result.{IfOk-from_err}
use Rattle.dpl_spec_format.specs.Tree.{elements_at}
use Rattle.dpl_flatten.proofs.CellLaws.{cell_none, cell_seen, cell_all, taken_here}
use Rattle.dpl_flatten.proofs.cells.cell_of.Goals as goal

pub loop-element-init : goal.loop-element-init
loop-element-init c = rw (c.new-outlines.ensures.items, c.new-copies.ensures.items) (cell_none c.args.lib.now c.args.chosen)

pub note_element-requires-clause-taken : goal.note_element-requires-clause-taken
note_element-requires-clause-taken c = taken_here c.args.chosen c.elements-element-items.result.now
    (elements_at c.args.lib.now c.args.structure) c.loop-element.element-index _ c.elements-element-items.ensures.same
    c.loop-element-test.true c.requires.taken

pub loop-element-preserved : goal.loop-element-preserved
loop-element-preserved c =
    cell_seen c.args.lib.now c.args.chosen c.args.totals.now c.elements-element-items.result.now
    (elements_at c.args.lib.now c.args.structure) c.loop-element.element-index _ _ _ _ _
    c.elements-element-items.ensures.same
    c.loop-element-test.true
    c.requires.bare
    c.in_ok-note_element.ensures
    c.loop-element.invariant

pub returns : goal.returns
returns c =
    rw (c.of.ensures, c.of-2.ensures)
    (cell_all c.args.lib.now c.args.chosen c.elements-element-items.result.now
    (elements_at c.args.lib.now c.args.structure) c.loop-element.element-index c.loop-element.outlines.items c.loop-element.copies.items
    c.elements-element-items.ensures.same c.loop-element-test.false c.loop-element.invariant)

pub returns-in_err-note_element : goal.returns-in_err-note_element
returns-in_err-note_element c = IfOk-from_err _ _ c.from_residual.ensures.0
