use Rattle.std.proofs.lemmas.Result.{IfOk-from_err}
use Rattle.dpl_links.proofs.PartLaws.{joined_low, joined_high}
use Rattle.dpl_links.proofs.levels.join.Goals as goal

pub returns-then-len-clause-vertices : goal.returns-then-len-clause-vertices
returns-then-len-clause-vertices c = joined_low c.args.lower.vertices.items c.args.upper.vertices.items c.in_ok-vertices.vertices.items
    (rw c.deref.ensures.value at c.in_ok-vertices.ensures)

pub returns-clause-vertices : goal.returns-clause-vertices
returns-clause-vertices c = joined_high c.args.lower.vertices.items c.args.upper.vertices.items c.in_ok-vertices-2.vertices.items
    (rw c.deref-2.ensures.value at c.in_ok-vertices-2.ensures)

pub returns-in_err-vertices-clause-root : goal.returns-in_err-vertices-clause-root
returns-in_err-vertices-clause-root c = IfOk-from_err _ _ c.from_residual.ensures.0

pub returns-in_err-vertices-clause-vertices : goal.returns-in_err-vertices-clause-vertices
returns-in_err-vertices-clause-vertices c = IfOk-from_err _ _ c.from_residual.ensures.0

pub returns-in_err-vertices-2-clause-root : goal.returns-in_err-vertices-2-clause-root
returns-in_err-vertices-2-clause-root c = IfOk-from_err _ _ c.from_residual-in_err-vertices-2.ensures.0

pub returns-in_err-vertices-2-clause-vertices : goal.returns-in_err-vertices-2-clause-vertices
returns-in_err-vertices-2-clause-vertices c = IfOk-from_err _ _ c.from_residual-in_err-vertices-2.ensures.0
