use Rattle.std.proofs.Common.{arith}
use Rattle.std.proofs.lemmas.Result.{IfOk-at_ok, IfOk-from_err}
use Rattle.dpl_zone.specs.ItemZones.{AreOfItems}
use Rattle.dpl_zone.specs.Ways.{IsItemZone}
use Rattle.dpl_zone.proofs.SharedLaws.{of-both}
use Rattle.dpl_zone.proofs.slab_zones.+zones.Goals as goal

pub returns : goal.returns
returns g t c =
    rw c.in_ok-append.ensures.items
    (of-both (IsItemZone c.args.shades.now.spacing c.args.shades.now.overlap c.args.items.now) c.args.items.now c.args.start _ c.args.end _ _ (omega arith) (omega arith)
    (IfOk-at_ok (λ v. AreOfItems (IsItemZone c.args.shades.now.spacing c.args.shades.now.overlap c.args.items.now) c.args.items.now _ _ v.items) c.in_ok-zones.was c.join-first.ensures.first)
    (IfOk-at_ok (λ v. AreOfItems (IsItemZone c.args.shades.now.spacing c.args.shades.now.overlap c.args.items.now) c.args.items.now _ _ v.items) c.in_ok-rest.was c.join-first.ensures.second))

pub returns-in_err-zones : goal.returns-in_err-zones
returns-in_err-zones g t c = IfOk-from_err _ _ c.from_residual.ensures.0

pub returns-in_err-rest : goal.returns-in_err-rest
returns-in_err-rest g t c = IfOk-from_err _ _ c.from_residual-in_err-rest.ensures.0

pub returns-in_err-append : goal.returns-in_err-append
returns-in_err-append g t c = IfOk-from_err _ _ c.from_residual-in_err-append.ensures.0
