use Rattle.std.proofs.lemmas.Result.{IfOk-weaker}
use Rattle.dpl_layer.proofs.ManyLayers.{all_held, fault_of_all}
use Rattle.dpl_layer.proofs.many.layers_of.Goals as goal

pub returns-in-Ok : goal.returns-in-Ok
returns-in-Ok c =
    let bytes = c.args.bytes.items in
    let held = rw c.as_slice.ensures.value at c.in-Ok.ensures.library in
    IfOk-weaker c.layers_in.result _ _ (λ layers all. all_held bytes c.in-Ok.lib c.args.choices.now layers.items held all) c.layers_in.ensures

pub returns : goal.returns
returns c =
    let bytes = c.args.bytes.items in
    let refused = rw c.as_slice.ensures.value at c.in-Err.ensures.fault in
    c.refused_for.ensures bytes (rw c.from.ensures (fault_of_all bytes c.in-Err.fault refused))
