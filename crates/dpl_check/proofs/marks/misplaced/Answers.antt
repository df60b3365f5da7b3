use Rattle.std.proofs.lemmas.Result.{IfOk-from_err}
use Rattle.dpl_spec_verdict.specs.Masks.{is_misplaced}
use Rattle.dpl_check.proofs.Marking.{misplaced-are}
use Rattle.dpl_check.proofs.Sets.{least-of}
use Rattle.dpl_check.proofs.marks.misplaced.Goals as goal

pub returns : goal.returns
returns c = λ marks are. least-of (is_misplaced marks c.args.layer.now c.args.a.now c.args.b.now) c.in_ok-all.all c.least.result
    (misplaced-are marks c.args.layer.now c.args.a.now c.args.b.now c.args.mark_a.now c.args.mark_b.now c.in_ok-first.first c.in_ok-second.second
    c.in_ok-all.all are c.in_ok-first.ensures c.in_ok-second.ensures c.in_ok-all.ensures)
    c.least.ensures.none c.least.ensures.some

pub returns-in_err-first : goal.returns-in_err-first
returns-in_err-first c = λ marks are. IfOk-from_err _ _ c.from_residual.ensures.0

pub returns-in_err-second : goal.returns-in_err-second
returns-in_err-second c = λ marks are. IfOk-from_err _ _ c.from_residual-in_err-second.ensures.0

pub returns-in_err-all : goal.returns-in_err-all
returns-in_err-all c = λ marks are. IfOk-from_err _ _ c.from_residual-in_err-all.ensures.0
