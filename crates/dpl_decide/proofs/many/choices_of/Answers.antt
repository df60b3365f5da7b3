use Rattle.std.proofs.Common.{option_map, refl}
use Rattle.std.proofs.lemmas.Result.{IfOk-from_err}
use Rattle.std.proofs.lemmas.List.{take_more}
use Rattle.dpl_decide.specs.Many.{IsChosen}
use Rattle.dpl_decide.proofs.Zips.{zip_next}
use Rattle.dpl_decide.proofs.many.choices_of.Goals as goal

pub loop-layer-preserved : goal.loop-layer-preserved
loop-layer-preserved c =
    rw (take_more c.args.order.now.layers.now c.loop-layer.layer-index 0 c.loop-layer-test.true, c.in_ok-push.ensures.items)
    (zip_next (IsChosen (option_map (λ t. t.now) c.args.order.now.top) c.args.order.now.datatype) _ _ _ _ c.loop-layer.invariant refl)

pub returns-in_err-push : goal.returns-in_err-push
returns-in_err-push c = IfOk-from_err _ _ c.from_residual.ensures.0
