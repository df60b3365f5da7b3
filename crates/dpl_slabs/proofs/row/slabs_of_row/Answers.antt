use Rattle.std.proofs.Common.{◌<◌, length, rules, arith}
use Rattle.std.proofs.lemmas.List.{get_or_default}
use Rattle.dpl_slabs.proofs.RowLaws.{bars-first, bars-next, bars-all, bars-spaced, bars-level}
use Rattle.std.proofs.lemmas.Result.{IfOk-from_err}
use Rattle.dpl_slabs.proofs.row.slabs_of_row.Goals as goal

pub loop-i-init : goal.loop-i-init
loop-i-init c = rw c.in_ok-done.ensures.items (bars-first c.args.row.now c.requires.row c.requires.rise _ c.requires.some (get_or_default _ _ _ _ c.requires.some))

pub loop-i-preserved : goal.loop-i-preserved
loop-i-preserved c =
    let here : c.loop-i.i < length c.args.row.now = search rules in
    bars-next c.args.row.now c.requires.row c.requires.rise c.loop-i.i _ _ _ _ _ here (get_or_default _ _ _ _ here) c.loop-i.invariant c.in_ok-last.ensures

pub returns-clause-slabs : goal.returns-clause-slabs
returns-clause-slabs c = rw c.in_ok-push.ensures.items (bars-all c.args.row.now c.loop-i.i _ _ (omega arith) c.loop-i.invariant)

pub returns-clause-spaced : goal.returns-clause-spaced
returns-clause-spaced c = rw c.in_ok-push.ensures.items (bars-spaced c.args.row.now c.loop-i.i _ _ c.loop-i.invariant)

pub returns-clause-level : goal.returns-clause-level
returns-clause-level c = rw c.in_ok-push.ensures.items (bars-level c.args.row.now c.loop-i.i _ _ c.loop-i.invariant)

pub returns-in_err-done-clause-slabs : goal.returns-in_err-done-clause-slabs
returns-in_err-done-clause-slabs c = IfOk-from_err _ _ c.from_residual.ensures.0

pub returns-in_err-done-clause-spaced : goal.returns-in_err-done-clause-spaced
returns-in_err-done-clause-spaced c = IfOk-from_err _ _ c.from_residual.ensures.0

pub returns-in_err-done-clause-level : goal.returns-in_err-done-clause-level
returns-in_err-done-clause-level c = IfOk-from_err _ _ c.from_residual.ensures.0

pub returns-in_err-last-clause-slabs : goal.returns-in_err-last-clause-slabs
returns-in_err-last-clause-slabs c = IfOk-from_err _ _ c.from_residual-in_err-last.ensures.0

pub returns-in_err-last-clause-spaced : goal.returns-in_err-last-clause-spaced
returns-in_err-last-clause-spaced c = IfOk-from_err _ _ c.from_residual-in_err-last.ensures.0

pub returns-in_err-last-clause-level : goal.returns-in_err-last-clause-level
returns-in_err-last-clause-level c = IfOk-from_err _ _ c.from_residual-in_err-last.ensures.0

pub returns-in_err-push-clause-slabs : goal.returns-in_err-push-clause-slabs
returns-in_err-push-clause-slabs c = IfOk-from_err _ _ c.from_residual-in_err-push.ensures.0

pub returns-in_err-push-clause-spaced : goal.returns-in_err-push-clause-spaced
returns-in_err-push-clause-spaced c = IfOk-from_err _ _ c.from_residual-in_err-push.ensures.0

pub returns-in_err-push-clause-level : goal.returns-in_err-push-clause-level
returns-in_err-push-clause-level c = IfOk-from_err _ _ c.from_residual-in_err-push.ensures.0
