use Rattle.std.proofs.Common.{◌++◌, ◌∷◌, [], get_or, ap, sym, ◌∙◌}
use Rattle.std.proofs.lemmas.List.{take_all, take_more}
use Rattle.std.proofs.lemmas.Result.{IfOk-from_err}
use Rattle.dpl_piece.proofs.bare.as_ids.Goals as goal

pub returns-in_err-ids : goal.returns-in_err-ids
returns-in_err-ids c = IfOk-from_err _ _ c.from_residual.ensures.0

pub returns-in_err-push : goal.returns-in_err-push
returns-in_err-push c = IfOk-from_err _ _ c.from_residual-in_err-push.ensures.0

pub loop-first-init : goal.loop-first-init
loop-first-init c = c.in_ok-ids.ensures.items

pub loop-first-preserved : goal.loop-first-preserved
loop-first-preserved c =
    let at = c.loop-first in
    c.in_ok-push.ensures.items ∙ ap (λ l. l ++ get_or c.args.sides.now at.first-index (0, 0) ∷ []) at.invariant ∙ sym (take_more c.args.sides.now at.first-index (0, 0) c.loop-first-test.true)

pub returns : goal.returns
returns c = c.loop-first.invariant ∙ take_all c.loop-first.first-index c.args.sides.now c.loop-first-test.false
