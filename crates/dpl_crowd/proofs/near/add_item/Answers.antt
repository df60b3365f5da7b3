use Rattle.std.proofs.Common.{◌≡◌, refl}
use Rattle.std.proofs.lemmas.Result.{IfOk-from_err}
use Rattle.dpl_tile.proofs.Adding.{adds-same}
use Rattle.dpl_tile.proofs.Loops.{adds-push}
use Rattle.dpl_crowd.specs.Crowds.{IsFoe, IsFoeOwner}
use Rattle.dpl_crowd.proofs.near.add_item.Goals as goal

pub returns : goal.returns
returns c =
    let foe : IsFoe c.args.spacing c.args.owners.now c.args.k c.args.r.now c.args.item.now = c.if-not-is_foe.ensures.0 refl in
    adds-same (λ w. w ≡ c.args.item.now.owner) (IsFoeOwner c.args.spacing c.args.owners.now c.args.k c.args.r.now c.args.item.now) _ _
    (λ w. (λ e. (foe, e), λ h. h.1)) (adds-push _ _ _ c.in_ok-push.ensures.items)

pub returns-in_err-push : goal.returns-in_err-push
returns-in_err-push c = IfOk-from_err _ _ c.from_residual.ensures.0
