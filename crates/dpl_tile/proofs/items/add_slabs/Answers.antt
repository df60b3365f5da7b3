use Rattle.std.proofs.Common.{arith}
use Rattle.dpl_tile.proofs.ItemLaws.{IsSlabItem, slabs-all}
use Rattle.dpl_tile.proofs.Loops.{adds-push, each-all, each-next, each-none}
use Rattle.dpl_tile.proofs.items.add_slabs.Goals as goal

pub loop-rect-init : goal.loop-rect-init
loop-rect-init c = each-none (IsSlabItem c.args.owner) c.args.rects.now _

pub loop-rect-preserved : goal.loop-rect-preserved
loop-rect-preserved c = each-next (IsSlabItem c.args.owner) c.args.rects.now c.loop-rect.rect-index _ _ c.loop-rect.items.items _ c.loop-rect-test.true
    c.loop-rect.invariant (adds-push c.loop-rect.items.items _ _ c.in_ok-push.ensures.items)

pub returns : goal.returns
returns c = rw c.in_ok-reserve.ensures.items at (slabs-all c.args.owner c.args.rects.now _ _
    (each-all (IsSlabItem c.args.owner) c.args.rects.now c.loop-rect.rect-index _ c.loop-rect.items.items (omega arith) c.loop-rect.invariant))
