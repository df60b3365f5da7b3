use Rattle.std.proofs.Common.{◌+◌, ◌-◌, ◌/◌, arith}
use Rattle.std.proofs.lemmas.Result.{IfOk-at_ok, IfOk-from_err}
use Rattle.dpl_edges.specs.Found.{AreSortedBetween}
use Rattle.dpl_edges.proofs.Finding.{sorted-both}
use Rattle.dpl_edges.proofs.pairs.+sorted.Goals as goal

pub returns : goal.returns
returns g t c =
    rw c.in_ok-append.ensures.items
    (sorted-both c.args.found.now c.args.low (c.args.low + (c.args.high - c.args.low) / 2) c.args.high _ _ (omega arith) (omega arith)
    (IfOk-at_ok (λ v. AreSortedBetween c.args.found.now _ _ v.items) c.in_ok-edges.was c.join-first.ensures.first)
    (IfOk-at_ok (λ v. AreSortedBetween c.args.found.now _ _ v.items) c.in_ok-rest.was c.join-first.ensures.second))

pub returns-in_err-edges : goal.returns-in_err-edges
returns-in_err-edges g t c = IfOk-from_err _ _ c.from_residual.ensures.0

pub returns-in_err-rest : goal.returns-in_err-rest
returns-in_err-rest g t c = IfOk-from_err _ _ c.from_residual-in_err-rest.ensures.0

pub returns-in_err-append : goal.returns-in_err-append
returns-in_err-append g t c = IfOk-from_err _ _ c.from_residual-in_err-append.ensures.0
