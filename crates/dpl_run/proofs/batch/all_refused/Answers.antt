use Rattle.std.proofs.Common.{refl}
use Rattle.std.proofs.lemmas.Result.{IfOk-from_err}
use Rattle.std.proofs.lemmas.List.{take_more}
use Rattle.std.proofs.lemmas.List.Elements.{All-push}
use Rattle.dpl_decide.specs.View.{FitsDecision}
use Rattle.dpl_decide.proofs.Zips.{zip_next}
use Rattle.dpl_run.proofs.batch.all_refused.Goals as goal

pub loop-layer-preserved : goal.loop-layer-preserved
loop-layer-preserved c =
    rw (take_more c.args.layers.now c.loop-layer._layer-index 0 c.loop-layer-test.true, c.in_ok-push.ensures.items)
    (zip_next _ _ _ _ _ c.loop-layer.invariant.0 refl, All-push FitsDecision _ _ c.loop-layer.invariant.1 tt)

pub returns-in_err-push : goal.returns-in_err-push
returns-in_err-push c = IfOk-from_err _ _ c.from_residual.ensures.0
