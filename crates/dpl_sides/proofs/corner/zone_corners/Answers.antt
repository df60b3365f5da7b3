use Rattle.std.proofs.Common.{◌≡◌, arith, map}
use Rattle.std.proofs.lemmas.List.{take_all}
use Rattle.std.proofs.lemmas.Result.{IfOk-from_err}
use Rattle.dpl_sides.specs.Noted.{zone_corner, IsZoneCorner}
use Rattle.dpl_sides.proofs.CornerLaws.{corners-sorted, zones-cornered}
use Rattle.dpl_sides.proofs.corner.zone_corners.Goals as goal

pub returns-clause-members : goal.returns-clause-members
returns-clause-members c =
    let all : c.loop-number.corners.items ≡ map (zone_corner c.args.kind c.args.zones.now) c.args.own.now =
    rw (take_all c.loop-number.number-index c.args.own.now (omega arith)) at c.loop-number.invariant in
    corners-sorted (IsZoneCorner c.args.kind c.args.zones.now c.args.own.now) _ _ c.sort_by_corner.ensures.same
    (rw all (zones-cornered c.args.kind c.args.zones.now c.args.own.now))

pub returns-in_err-push-clause-rise : goal.returns-in_err-push-clause-rise
returns-in_err-push-clause-rise c = IfOk-from_err _ _ c.from_residual.ensures.0

pub returns-in_err-push-clause-members : goal.returns-in_err-push-clause-members
returns-in_err-push-clause-members c = IfOk-from_err _ _ c.from_residual.ensures.0
