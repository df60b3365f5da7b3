use Rattle.std.proofs.Common.{rules}
use Rattle.std.proofs.lemmas.Result.{IfOk-from_err}
use Rattle.dpl_flatten.proofs.faults.find_faults.Goals as goal

pub returns-in_err-find_missing-clause-fault : goal.returns-in_err-find_missing-clause-fault
returns-in_err-find_missing-clause-fault c = search (rules, c.in_err-find_missing.ensures.fault c.args.layer)

pub returns-in_err-order-clause-fault : goal.returns-in_err-order-clause-fault
returns-in_err-order-clause-fault c = search (rules, c.in_err-order.ensures.fault c.args.layer)

pub returns-in_err-find_missing-clause-small : goal.returns-in_err-find_missing-clause-small
returns-in_err-find_missing-clause-small c = IfOk-from_err _ _ c.from_residual.ensures.0

pub returns-in_err-find_missing-clause-order : goal.returns-in_err-find_missing-clause-order
returns-in_err-find_missing-clause-order c = IfOk-from_err _ _ c.from_residual.ensures.0

pub returns-in_err-find_missing-clause-totals : goal.returns-in_err-find_missing-clause-totals
returns-in_err-find_missing-clause-totals c = IfOk-from_err _ _ c.from_residual.ensures.0

pub returns-in_err-order-clause-small : goal.returns-in_err-order-clause-small
returns-in_err-order-clause-small c = IfOk-from_err _ _ c.from_residual-in_err-order.ensures.0

pub returns-in_err-order-clause-order : goal.returns-in_err-order-clause-order
returns-in_err-order-clause-order c = IfOk-from_err _ _ c.from_residual-in_err-order.ensures.0

pub returns-in_err-order-clause-totals : goal.returns-in_err-order-clause-totals
returns-in_err-order-clause-totals c = IfOk-from_err _ _ c.from_residual-in_err-order.ensures.0

pub returns-in_err-find_refused-clause-small : goal.returns-in_err-find_refused-clause-small
returns-in_err-find_refused-clause-small c = IfOk-from_err _ _ c.from_residual-in_err-find_refused.ensures.0

pub returns-in_err-find_refused-clause-order : goal.returns-in_err-find_refused-clause-order
returns-in_err-find_refused-clause-order c = IfOk-from_err _ _ c.from_residual-in_err-find_refused.ensures.0

pub returns-in_err-find_refused-clause-totals : goal.returns-in_err-find_refused-clause-totals
returns-in_err-find_refused-clause-totals c = IfOk-from_err _ _ c.from_residual-in_err-find_refused.ensures.0

pub returns-in_err-totals-clause-small : goal.returns-in_err-totals-clause-small
returns-in_err-totals-clause-small c = IfOk-from_err _ _ c.from_residual-in_err-totals.ensures.0

pub returns-in_err-totals-clause-order : goal.returns-in_err-totals-clause-order
returns-in_err-totals-clause-order c = IfOk-from_err _ _ c.from_residual-in_err-totals.ensures.0

pub returns-in_err-totals-clause-totals : goal.returns-in_err-totals-clause-totals
returns-in_err-totals-clause-totals c = IfOk-from_err _ _ c.from_residual-in_err-totals.ensures.0
