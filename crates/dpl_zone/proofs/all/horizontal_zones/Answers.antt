use Rattle.std.proofs.lemmas.Result.{IfOk-from_err}
use Rattle.dpl_zone.specs.Owned.{transposed_parts}
use Rattle.dpl_zone.proofs.ColumnLaws.{sets-of_columns}
use Rattle.dpl_zone.proofs.OwnedLaws.{sets-within}
use Rattle.dpl_zone.proofs.PartZones.{apart-turned, flat-from}
use Rattle.dpl_zone.proofs.all.horizontal_zones.Goals as goal

pub upright_zones-requires-clause-rise : goal.upright_zones-requires-clause-rise
upright_zones-requires-clause-rise c = c.in_ok-columns.ensures.rise

pub upright_zones-requires-clause-order : goal.upright_zones-requires-clause-order
upright_zones-requires-clause-order c = c.in_ok-columns.ensures.order

pub upright_zones-requires-clause-within : goal.upright_zones-requires-clause-within
upright_zones-requires-clause-within c = sets-within (transposed_parts c.items.result.now) _ (sets-of_columns c.items.result.now _ c.in_ok-columns.ensures)

pub returns : goal.returns
returns c =
    let sets = sets-of_columns c.args.parts.now _ (rw c.items.ensures.value at c.in_ok-columns.ensures) in
    flat-from c.args.spacing c.args.overlap c.args.parts.now c.in_ok-zones.zones.items _
    (c.in_ok-zones.ensures (transposed_parts c.args.parts.now) sets (apart-turned c.args.parts.now c.items.ensures.parts.apart)) c.transpose.ensures

pub returns-in_err-columns : goal.returns-in_err-columns
returns-in_err-columns c = IfOk-from_err _ _ c.from_residual.ensures.0

pub returns-in_err-zones : goal.returns-in_err-zones
returns-in_err-zones c = IfOk-from_err _ _ c.from_residual-in_err-zones.ensures.0
