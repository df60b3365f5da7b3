use Rattle.std.proofs.lemmas.Result.{IfOk-from_err}
use Rattle.dpl_spec_verdict.specs.Masks.{is_uncovered}
use Rattle.dpl_check.proofs.Sets.{least-of, none-uncovered, uncovered-are}
use Rattle.dpl_check.proofs.cover.uncovered.Goals as goal

pub returns-then-equal : goal.returns-then-equal
returns-then-equal c = none-uncovered c.args.layer.now c.args.a.now c.args.b.now c.in_ok-masks.masks c.in_ok-masks.ensures (c.equal.ensures.0 c.if-equal.true)

pub returns : goal.returns
returns c = least-of (is_uncovered c.args.layer.now c.args.a.now c.args.b.now) c.in_ok-all.all c.least.result
    (uncovered-are c.args.layer.now c.args.a.now c.args.b.now c.in_ok-masks.masks c.in_ok-all.all c.in_ok-masks.ensures c.in_ok-all.ensures)
    c.least.ensures.none c.least.ensures.some

pub returns-in_err-masks : goal.returns-in_err-masks
returns-in_err-masks c = IfOk-from_err _ _ c.from_residual.ensures.0

pub returns-in_err-all : goal.returns-in_err-all
returns-in_err-all c = IfOk-from_err _ _ c.from_residual-in_err-all.ensures.0
