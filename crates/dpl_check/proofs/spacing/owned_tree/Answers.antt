use Rattle.std.proofs.Common.{rules, arith}
use Rattle.std.proofs.lemmas.Result.{IfOk-weaker, IfOk-from_err}
use Rattle.dpl_check.proofs.Owning.{owns-none, owns-more, owns-all}
use Rattle.dpl_check.proofs.spacing.owned_tree.Goals as goal

pub loop-i-init : goal.loop-i-init
loop-i-init c = owns-none c.args.rects.now c.args.owners.now _ c.in_ok-items.ensures

pub loop-i-preserved : goal.loop-i-preserved
loop-i-preserved c = owns-more c.args.rects.now c.args.owners.now c.loop-i.i _ _ c.loop-i.items _ c.loop-i-test.true (search rules)
    (search rules) c.loop-i.invariant c.in_ok-add.ensures

pub returns : goal.returns
returns c = IfOk-weaker c.of.result _ _ (λ t h. owns-all c.args.rects.now c.args.owners.now c.loop-i.i _ t (omega arith) c.loop-i.invariant h) c.of.ensures

pub returns-in_err-items : goal.returns-in_err-items
returns-in_err-items c = IfOk-from_err _ _ c.from_residual.ensures.0

pub returns-in_err-add : goal.returns-in_err-add
returns-in_err-add c = IfOk-from_err _ _ c.from_residual-in_err-add.ensures.0
