use Rattle.std.proofs.lemmas.List.{get_or_default}
use Rattle.std.proofs.lemmas.Result.{IfOk-from_err}
use Rattle.dpl_join.specs.Pairs.{item_at}
use Rattle.dpl_zone.specs.Ways.{IsItemZone}
use Rattle.dpl_zone.proofs.Features.{first-more, first-none}
use Rattle.dpl_zone.proofs.ItemZones.{item-added}
use Rattle.dpl_zone.proofs.slab_zones.add_item.Goals as goal

pub loop-rect-init : goal.loop-rect-init
loop-rect-init c = first-none c.deref-rect-items.result.now (item_at c.args.items.now c.args.at.number).owner c.args.zones.now.items

pub loop-rect-preserved : goal.loop-rect-preserved
loop-rect-preserved c =
    rw c.in_ok-push.ensures.items
    (first-more c.deref-rect-items.result.now c.loop-rect.rect-index (item_at c.args.items.now c.args.at.number).owner _ c.args.zones.now.items c.loop-rect.zones.items
    c.loop-rect-test.true (λ d. get_or_default _ _ _ _ c.loop-rect-test.true) c.owner_of-owner.ensures c.loop-rect.invariant)

pub returns : goal.returns
returns c =
    item-added (IsItemZone c.args.shades.now.spacing c.args.shades.now.overlap c.args.items.now c.args.at.number) c.zones_of_item.new.room.zones.items c.loop-rect.rect-index
    (item_at c.args.items.now c.args.at.number).owner c.args.zones.now.items c.loop-rect.zones.items (rw c.deref-rect-items.ensures.value at c.loop-rect-test.false) c.in_ok-zones_of_item.ensures
    (rw c.deref-rect-items.ensures.value at c.loop-rect.invariant)

pub returns-in_err-zones_of_item : goal.returns-in_err-zones_of_item
returns-in_err-zones_of_item c = IfOk-from_err _ _ c.from_residual.ensures.0

pub returns-in_err-push : goal.returns-in_err-push
returns-in_err-push c = IfOk-from_err _ _ c.from_residual-in_err-push.ensures.0
