use Rattle.std.proofs.Common.{refl, arith}
use Rattle.std.proofs.lemmas.Result.{IfOk-from_err}
use Rattle.dpl_flatten.proofs.CellLaws.{below_none, below_more, below_all}
use Rattle.dpl_flatten.proofs.cells.make_cells.Goals as goal

pub loop-structure-init : goal.loop-structure-init
loop-structure-init c = below_none c.args.lib.now c.args.chosen c.args.marks.now c.new-cells.result.items c.new-cells.ensures.items

pub cell_where-requires-clause-bare : goal.cell_where-requires-clause-bare
cell_where-requires-clause-bare c = c.requires.bare c.loop-structure.structure

pub cell_where-requires-clause-taken : goal.cell_where-requires-clause-taken
cell_where-requires-clause-taken c = c.requires.taken c.loop-structure.structure

pub loop-structure-preserved : goal.loop-structure-preserved
loop-structure-preserved c =
    below_more c.args.lib.now c.args.chosen c.args.marks.now c.loop-structure.structure _ c.in_ok-cell.cell c.loop-structure.cells.items
    c.push.new.self.items c.in_ok-push.ensures.items refl c.in_ok-cell.ensures.cell c.in_ok-cell.ensures.empty c.loop-structure.invariant

pub returns : goal.returns
returns c =
    below_all c.args.lib.now c.args.chosen c.args.marks.now c.loop-structure.structure c.loop-structure.cells.items
    (omega (arith, c.requires.marks, c.count-structure-end.ensures.value))
    (omega (arith, c.count-structure-end.ensures.value))
    c.loop-structure.invariant

pub returns-in_err-cell : goal.returns-in_err-cell
returns-in_err-cell c = IfOk-from_err _ _ c.from_residual.ensures.0

pub returns-in_err-push : goal.returns-in_err-push
returns-in_err-push c = IfOk-from_err _ _ c.from_residual-in_err-push.ensures.0
