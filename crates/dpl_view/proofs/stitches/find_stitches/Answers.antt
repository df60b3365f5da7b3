use Rattle.std.proofs.Common.{subst}
use Rattle.std.proofs.lemmas.Result.{IfOk-from_err}
use Rattle.dpl_piece.specs.View.{cut_view}
use Rattle.dpl_layer.specs.View.{IsLayerFault, choice_view}
use Rattle.dpl_layer.specs.declared.fault.LayerFault.{LayerFault}
use Rattle.dpl_view.proofs.stitches.find_stitches.Goals as goal

pub returns-in-Err-Refused : goal.returns-in-Err-Refused
returns-in-Err-Refused g c =
    rw c.in-Err-Refused.field-0-is
    (subst (λ (e : LayerFault). IsLayerFault (choice_view c.args.order.now.choice) c.args.bytes.items e) c.in-Err-Refused.field-0-is c.in-Err-Refused.ensures.fault)

pub seams_of-requires-clause-conflicts : goal.seams_of-requires-clause-conflicts
seams_of-requires-clause-conflicts g c = rw c.uniform-spacing.ensures c.in_ok-cut.ensures.conflicts

pub returns : goal.returns
returns g c =
    let (features, many, is) = c.in_ok-cut.ensures.cut in
    let (pieces, completed, all) = rw c.uniform-spacing.ensures at c.in_ok-seams.ensures in
    (c.in-Ok.layer.slabs, c.in-Ok.ensures.layer, cut_view features pieces, is pieces completed, all features many)

pub returns-in_err-cut : goal.returns-in_err-cut
returns-in_err-cut g c = IfOk-from_err _ _ c.from_residual.ensures.0

pub returns-in_err-seams : goal.returns-in_err-seams
returns-in_err-seams g c = IfOk-from_err _ _ c.from_residual-in_err-seams.ensures.0
