use Rattle.std.proofs.Common.{option_map}
use Rattle.std.proofs.lemmas.Result.{IfOk-from_err, IfOk-weaker}
use Rattle.dpl_decide.proofs.Layers.{layers_decided}
use Rattle.dpl_decide.proofs.many.decide_all.Goals as goal

pub returns : goal.returns
returns g c =
    let order = c.args.order.now in
    let read = rw c.deref.ensures.value at c.in_ok-layers.ensures in
    IfOk-weaker c.all_decided.result _ _
    (λ ds from. layers_decided (option_map (λ t. t.now) order.top) order.datatype order.spacing order.overlap c.args.bytes.items c.requires.size
    order.layers.now c.in_ok-choices.choices.items c.in_ok-layers.layers.items ds.items c.in_ok-choices.ensures read from)
    c.all_decided.ensures

pub returns-in_err-choices : goal.returns-in_err-choices
returns-in_err-choices g c = IfOk-from_err _ _ c.from_residual.ensures.0

pub returns-in_err-layers : goal.returns-in_err-layers
returns-in_err-layers g c = IfOk-from_err _ _ c.from_residual-in_err-layers.ensures.0
