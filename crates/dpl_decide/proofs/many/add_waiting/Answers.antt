use Rattle.std.proofs.Common.{refl}
use Rattle.std.proofs.lemmas.Result.{IfOk-from_err}
use Rattle.dpl_decide.proofs.Waiting.{wait_cut, wait_refused}
use Rattle.dpl_decide.proofs.many.add_waiting.Goals as goal

pub returns-in_ok-push-in-Refused : goal.returns-in_ok-push-in-Refused
returns-in_ok-push-in-Refused g c = λ layers all.
    rw (c.in-Refused.is, c.in_ok-push-in-Refused.ensures.items) (wait_refused c.args.spacing c.args.overlap layers _ _ _ _ all)

pub returns-in_ok-push-in-Read-2 : goal.returns-in_ok-push-in-Read-2
returns-in_ok-push-in-Read-2 g c = λ layers all.
    rw (c.in-Read.is, c.in_ok-push-in-Read-2.ensures.items, c.in_ok-push-in-Read.ensures.items)
    (wait_cut c.args.spacing c.args.overlap layers _ _ _ _ _ all (refl, c.in_ok-cut_unmarked-in-Read.ensures.cut, c.in_ok-cut_unmarked-in-Read.ensures.keys, tt))

pub returns-in_err-push-in-Refused : goal.returns-in_err-push-in-Refused
returns-in_err-push-in-Refused g c = IfOk-from_err _ _ c.from_residual.ensures.0

pub returns-in_err-cut_unmarked-in-Read : goal.returns-in_err-cut_unmarked-in-Read
returns-in_err-cut_unmarked-in-Read g c = IfOk-from_err _ _ c.from_residual-in_err-cut_unmarked-in-Read.ensures.0

pub returns-in_err-push-in-Read : goal.returns-in_err-push-in-Read
returns-in_err-push-in-Read g c = IfOk-from_err _ _ c.from_residual-in_err-push-in-Read.ensures.0

pub returns-in_err-push-in-Read-2 : goal.returns-in_err-push-in-Read-2
returns-in_err-push-in-Read-2 g c = IfOk-from_err _ _ c.from_residual-in_err-push-in-Read-2.ensures.0
