use Rattle.std.proofs.lemmas.Result.{IfOk-from_err}
use Rattle.dpl_answer.proofs.Anchoring.{listed-pairs}
use Rattle.dpl_answer.proofs.marks.edges_of_marks.Goals as goal

pub returns-clause-pairs : goal.returns-clause-pairs
returns-clause-pairs c = listed-pairs _ c.in_ok-edges.edges.items c.in_ok-edges.ensures

pub returns-in_err-edges-clause-edges : goal.returns-in_err-edges-clause-edges
returns-in_err-edges-clause-edges c = IfOk-from_err _ _ c.from_residual.ensures.0

pub returns-in_err-edges-clause-pairs : goal.returns-in_err-edges-clause-pairs
returns-in_err-edges-clause-pairs c = IfOk-from_err _ _ c.from_residual.ensures.0
