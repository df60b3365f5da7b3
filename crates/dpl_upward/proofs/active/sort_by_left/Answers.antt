use Rattle.std.proofs.Common.{rules}
use Rattle.std.proofs.lemmas.List.Sorted.{answers_always}
use Rattle.dpl_upward.proofs.Orders.{lefts-rise}
use Rattle.std.proofs.lemmas.Result.{IfOk-from_err}
use Rattle.dpl_upward.proofs.active.sort_by_left.Goals as goal

pub returns-clause-rise : goal.returns-clause-rise
returns-clause-rise c = lefts-rise _ (c.in_ok-sort_by_key.ensures.sorted (λ r. r.x0) (answers_always _ _ _ (λ f a r g q. search rules)))

pub returns-in_err-sort_by_key-clause-same : goal.returns-in_err-sort_by_key-clause-same
returns-in_err-sort_by_key-clause-same c = IfOk-from_err _ _ c.from_residual.ensures.0

pub returns-in_err-sort_by_key-clause-rise : goal.returns-in_err-sort_by_key-clause-rise
returns-in_err-sort_by_key-clause-rise c = IfOk-from_err _ _ c.from_residual.ensures.0
