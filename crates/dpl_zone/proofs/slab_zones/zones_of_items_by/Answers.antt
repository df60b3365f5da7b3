use Rattle.std.proofs.lemmas.Result.{IfOk-weaker}
use Rattle.dpl_zone.specs.Ways.{IsItemZone}
use Rattle.dpl_zone.proofs.SharedLaws.{of-all}
use Rattle.dpl_zone.proofs.slab_zones.zones_of_items_by.Goals as goal

pub returns : goal.returns
returns g c =
    IfOk-weaker c.zones_between_by.result _ _
    (λ v are. of-all (IsItemZone c.args.shades.now.spacing c.args.shades.now.overlap c.args.items.now) c.args.items.now _ v.items are) c.zones_between_by.ensures
