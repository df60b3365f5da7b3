use Rattle.std.proofs.lemmas.Result.{IfOk-weaker, IfOk-from_err}
use Rattle.dpl_check.proofs.Sets.{difference-are}
use Rattle.dpl_check.proofs.cover.difference.Goals as goal

pub returns : goal.returns
returns c = IfOk-weaker c.union.result _ _ (λ all h. difference-are c.args.layer.now c.args.masks.now c.in_ok-missing.missing c.in_ok-added.added all
    c.in_ok-missing.ensures c.in_ok-added.ensures h) c.union.ensures

pub returns-in_err-missing : goal.returns-in_err-missing
returns-in_err-missing c = IfOk-from_err _ _ c.from_residual.ensures.0

pub returns-in_err-added : goal.returns-in_err-added
returns-in_err-added c = IfOk-from_err _ _ c.from_residual-in_err-added.ensures.0
