use Rattle.dpl_sweep.specs.declared.edge.Rule.TheVariants.{Either}
use Rattle.dpl_slabs.proofs.SetLaws.{both-told, both-closed, both-units}
use Rattle.std.proofs.lemmas.Result.{IfOk-from_err}
use Rattle.dpl_slabs.proofs.combine.edges_of.Goals as goal

pub returns-clause-units : goal.returns-clause-units
returns-clause-units c =
    let first = rw c.in_ok-edges.ensures.items at c.in_ok-add_rects.ensures in
    both-units Either _ _ _ _ first c.in_ok-add_rects-2.ensures

pub returns-clause-closed : goal.returns-clause-closed
returns-clause-closed c rule =
    let first = rw c.in_ok-edges.ensures.items at c.in_ok-add_rects.ensures in
    both-closed rule _ _ _ _ first c.in_ok-add_rects-2.ensures

pub returns-clause-told : goal.returns-clause-told
returns-clause-told c rule =
    let first = rw c.in_ok-edges.ensures.items at c.in_ok-add_rects.ensures in
    both-told rule _ _ _ _ first c.in_ok-add_rects-2.ensures

pub returns-in_err-edges-clause-units : goal.returns-in_err-edges-clause-units
returns-in_err-edges-clause-units c = IfOk-from_err _ _ c.from_residual.ensures.0

pub returns-in_err-edges-clause-closed : goal.returns-in_err-edges-clause-closed
returns-in_err-edges-clause-closed c = IfOk-from_err _ _ c.from_residual.ensures.0

pub returns-in_err-edges-clause-told : goal.returns-in_err-edges-clause-told
returns-in_err-edges-clause-told c = IfOk-from_err _ _ c.from_residual.ensures.0

pub returns-in_err-add_rects-clause-units : goal.returns-in_err-add_rects-clause-units
returns-in_err-add_rects-clause-units c = IfOk-from_err _ _ c.from_residual-in_err-add_rects.ensures.0

pub returns-in_err-add_rects-clause-closed : goal.returns-in_err-add_rects-clause-closed
returns-in_err-add_rects-clause-closed c = IfOk-from_err _ _ c.from_residual-in_err-add_rects.ensures.0

pub returns-in_err-add_rects-clause-told : goal.returns-in_err-add_rects-clause-told
returns-in_err-add_rects-clause-told c = IfOk-from_err _ _ c.from_residual-in_err-add_rects.ensures.0

pub returns-in_err-add_rects-2-clause-units : goal.returns-in_err-add_rects-2-clause-units
returns-in_err-add_rects-2-clause-units c = IfOk-from_err _ _ c.from_residual-in_err-add_rects-2.ensures.0

pub returns-in_err-add_rects-2-clause-closed : goal.returns-in_err-add_rects-2-clause-closed
returns-in_err-add_rects-2-clause-closed c = IfOk-from_err _ _ c.from_residual-in_err-add_rects-2.ensures.0

pub returns-in_err-add_rects-2-clause-told : goal.returns-in_err-add_rects-2-clause-told
returns-in_err-add_rects-2-clause-told c = IfOk-from_err _ _ c.from_residual-in_err-add_rects-2.ensures.0
