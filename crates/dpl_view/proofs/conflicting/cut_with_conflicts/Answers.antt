use Rattle.std.proofs.Common.{None}
use Rattle.std.proofs.lemmas.Result.{IfOk-from_err}
use Rattle.dpl_spec_split.proofs.MarkLaws.{none-marked}
use Rattle.dpl_view.proofs.conflicting.cut_with_conflicts.Goals as goal

pub returns-clause-cut : goal.returns-clause-cut
returns-clause-cut g c = rw c.uniform-spacing.ensures at (c.in_ok-cut.ensures.cut None (none-marked c.empty-no_marks.result c.empty-no_marks.ensures))

pub returns-clause-conflicts : goal.returns-clause-conflicts
returns-clause-conflicts g c = rw c.uniform-spacing.ensures at c.in_ok-conflicts.ensures

pub returns-in_err-cut-clause-cut : goal.returns-in_err-cut-clause-cut
returns-in_err-cut-clause-cut g c = IfOk-from_err _ _ c.from_residual.ensures.0

pub returns-in_err-cut-clause-keys : goal.returns-in_err-cut-clause-keys
returns-in_err-cut-clause-keys g c = IfOk-from_err _ _ c.from_residual.ensures.0

pub returns-in_err-cut-clause-conflicts : goal.returns-in_err-cut-clause-conflicts
returns-in_err-cut-clause-conflicts g c = IfOk-from_err _ _ c.from_residual.ensures.0

pub returns-in_err-conflicts-clause-cut : goal.returns-in_err-conflicts-clause-cut
returns-in_err-conflicts-clause-cut g c = IfOk-from_err _ _ c.from_residual-in_err-conflicts.ensures.0

pub returns-in_err-conflicts-clause-keys : goal.returns-in_err-conflicts-clause-keys
returns-in_err-conflicts-clause-keys g c = IfOk-from_err _ _ c.from_residual-in_err-conflicts.ensures.0

pub returns-in_err-conflicts-clause-conflicts : goal.returns-in_err-conflicts-clause-conflicts
returns-in_err-conflicts-clause-conflicts g c = IfOk-from_err _ _ c.from_residual-in_err-conflicts.ensures.0
