use Rattle.std.proofs.lemmas.Result.{IfOk-from_err}
use Rattle.std.proofs.Common.{sym, ap, map, ◌∙◌}
use Rattle.std.proofs.lemmas.List.{map_more, take_all}
use Rattle.dpl_flatten.specs.Totals.{capped_points}
use Rattle.dpl_flatten.proofs.placed.counts_by.Goals as goal

pub returns-in_err-count : goal.returns-in_err-count
returns-in_err-count c = IfOk-from_err _ _ c.from_residual.ensures.0

pub returns-in_err-push : goal.returns-in_err-push
returns-in_err-push c = IfOk-from_err _ _ c.from_residual-in_err-push.ensures.0

pub loop-layer-preserved : goal.loop-layer-preserved
loop-layer-preserved c = rw (c.in_ok-push.ensures.items, c.loop-layer.invariant, c.in_ok-count.ensures)
    (sym (map_more (capped_points c.args.lib.now c.args.top) c.args.layers.now c.loop-layer.layer-index _ c.loop-layer-test.true))

pub returns : goal.returns
returns c = c.loop-layer.invariant ∙ ap (map (capped_points c.args.lib.now c.args.top)) (take_all _ _ c.loop-layer-test.false)
