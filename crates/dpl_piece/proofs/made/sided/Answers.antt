use Rattle.std.proofs.Common.{◌∙◌, ◌≡◌}
use Rattle.std.proofs.lemmas.List.{length-map}
use Rattle.std.proofs.lemmas.Result.{IfOk-from_err, IfOk-weaker}
use Rattle.dpl_sides.specs.declared.standing.Side.TheVariants.{Before, After}
use Rattle.dpl_sides.specs.Noted.{StandsAfterFrom, StandsBeforeFrom}
use Rattle.dpl_sides.specs.Pieces.{parts_in, zone_at}
use Rattle.dpl_sides.specs.Sided.{sides_in}
use Rattle.dpl_piece.proofs.MadeLaws.{local-known, sides-of}
use Rattle.dpl_piece.proofs.made.sided.Goals as goal

pub sides_of-requires : goal.sides_of-requires
sides_of-requires g c =
    rw (c.deref.ensures.value, c.deref-2.ensures.value, c.in_ok-own_zones.ensures, c.in_ok-numbers.ensures) (local-known c.args.zones.now c.args.own.now)

pub returns-clause-own : goal.returns-clause-own
returns-clause-own g c = c.with_sides.ensures.own

pub returns-clause-firsts : goal.returns-clause-firsts
returns-clause-firsts g c =
    let firsts = rw (c.deref.ensures.value, c.deref-2.ensures.value, c.in_ok-own_zones.ensures, c.in_ok-numbers.ensures) at c.in_ok-noted.ensures.firsts in
    let each = length-map c.args.own.now (zone_at c.args.zones.now) in
    IfOk-weaker c.with_sides.result (λ v. sides_in Before v.items ≡ c.deref-3.result.now) _
    (λ v is. rw (is, c.deref-3.ensures.value)
    (sides-of (StandsBeforeFrom (parts_in c.args.pieces.now) 0) c.args.zones.now c.args.own.now firsts.old _ (firsts.each ∙ each) firsts.are))
    c.with_sides.ensures.firsts

pub returns-clause-seconds : goal.returns-clause-seconds
returns-clause-seconds g c =
    let seconds = rw (c.deref.ensures.value, c.deref-2.ensures.value, c.in_ok-own_zones.ensures, c.in_ok-numbers.ensures) at c.in_ok-noted.ensures.seconds in
    let each = length-map c.args.own.now (zone_at c.args.zones.now) in
    IfOk-weaker c.with_sides.result (λ v. sides_in After v.items ≡ c.deref-4.result.now) _
    (λ v is. rw (is, c.deref-4.ensures.value)
    (sides-of (StandsAfterFrom (parts_in c.args.pieces.now) 0) c.args.zones.now c.args.own.now seconds.old _ (seconds.each ∙ each) seconds.are))
    c.with_sides.ensures.seconds

pub returns-in_err-own_zones-clause-own : goal.returns-in_err-own_zones-clause-own
returns-in_err-own_zones-clause-own g c = IfOk-from_err _ _ c.from_residual.ensures.0

pub returns-in_err-own_zones-clause-firsts : goal.returns-in_err-own_zones-clause-firsts
returns-in_err-own_zones-clause-firsts g c = IfOk-from_err _ _ c.from_residual.ensures.0

pub returns-in_err-own_zones-clause-seconds : goal.returns-in_err-own_zones-clause-seconds
returns-in_err-own_zones-clause-seconds g c = IfOk-from_err _ _ c.from_residual.ensures.0

pub returns-in_err-numbers-clause-own : goal.returns-in_err-numbers-clause-own
returns-in_err-numbers-clause-own g c = IfOk-from_err _ _ c.from_residual-in_err-numbers.ensures.0

pub returns-in_err-numbers-clause-firsts : goal.returns-in_err-numbers-clause-firsts
returns-in_err-numbers-clause-firsts g c = IfOk-from_err _ _ c.from_residual-in_err-numbers.ensures.0

pub returns-in_err-numbers-clause-seconds : goal.returns-in_err-numbers-clause-seconds
returns-in_err-numbers-clause-seconds g c = IfOk-from_err _ _ c.from_residual-in_err-numbers.ensures.0

pub returns-in_err-noted-clause-own : goal.returns-in_err-noted-clause-own
returns-in_err-noted-clause-own g c = IfOk-from_err _ _ c.from_residual-in_err-noted.ensures.0

pub returns-in_err-noted-clause-firsts : goal.returns-in_err-noted-clause-firsts
returns-in_err-noted-clause-firsts g c = IfOk-from_err _ _ c.from_residual-in_err-noted.ensures.0

pub returns-in_err-noted-clause-seconds : goal.returns-in_err-noted-clause-seconds
returns-in_err-noted-clause-seconds g c = IfOk-from_err _ _ c.from_residual-in_err-noted.ensures.0

pub zones_at-requires : goal.zones_at-requires
zones_at-requires g c = c.requires

pub with_sides-requires-clause-firsts : goal.with_sides-requires-clause-firsts
with_sides-requires-clause-firsts g c =
    let firsts = rw (c.deref.ensures.value, c.deref-2.ensures.value, c.in_ok-own_zones.ensures, c.in_ok-numbers.ensures) at c.in_ok-noted.ensures.firsts in
    rw c.deref-3.ensures.value (firsts.are.each ∙ (firsts.each ∙ length-map c.args.own.now (zone_at c.args.zones.now)))

pub with_sides-requires-clause-seconds : goal.with_sides-requires-clause-seconds
with_sides-requires-clause-seconds g c =
    let seconds = rw (c.deref.ensures.value, c.deref-2.ensures.value, c.in_ok-own_zones.ensures, c.in_ok-numbers.ensures) at c.in_ok-noted.ensures.seconds in
    rw c.deref-4.ensures.value (seconds.are.each ∙ (seconds.each ∙ length-map c.args.own.now (zone_at c.args.zones.now)))
