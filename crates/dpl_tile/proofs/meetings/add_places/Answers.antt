use Rattle.std.proofs.Common.{arith}
use Rattle.dpl_tile.proofs.Loops.{adds-push, each-all, each-next, each-none}
use Rattle.dpl_tile.proofs.MeetingLaws.{IsPlaced, placed-all}
use Rattle.dpl_tile.proofs.meetings.add_places.Goals as goal

pub loop-place-init : goal.loop-place-init
loop-place-init c = each-none (IsPlaced c.args.pair.now) c.args.places.now c.args.meetings.now.items

pub loop-place-preserved : goal.loop-place-preserved
loop-place-preserved c = each-next (IsPlaced c.args.pair.now) c.args.places.now c.loop-place.place-index _ c.args.meetings.now.items c.loop-place.meetings.items _ c.loop-place-test.true
    c.loop-place.invariant (adds-push c.loop-place.meetings.items _ _ c.in_ok-push.ensures.items)

pub returns : goal.returns
returns c = placed-all c.args.pair.now c.args.places.now _ _ (each-all (IsPlaced c.args.pair.now) c.args.places.now c.loop-place.place-index _
    c.loop-place.meetings.items (omega arith) c.loop-place.invariant)
