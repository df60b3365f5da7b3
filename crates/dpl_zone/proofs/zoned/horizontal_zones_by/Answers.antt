use Rattle.std.proofs.lemmas.Result.{IfOk-from_err}
use Rattle.dpl_zone.specs.Owned.{transposed_parts}
use Rattle.dpl_zone.proofs.ColumnLaws.{sets-of_columns}
use Rattle.dpl_zone.proofs.OwnedLaws.{sets-within}
use Rattle.dpl_zone.proofs.PartZones.{apart-turned, flat-from}
use Rattle.dpl_zone.proofs.zoned.horizontal_zones_by.Goals as goal

pub upright_zones_by-requires-clause-rise : goal.upright_zones_by-requires-clause-rise
upright_zones_by-requires-clause-rise g c κs l = c.requires.columns.rise

pub upright_zones_by-requires-clause-order : goal.upright_zones_by-requires-clause-order
upright_zones_by-requires-clause-order g c κs l = c.requires.columns.order

pub upright_zones_by-requires-clause-within : goal.upright_zones_by-requires-clause-within
upright_zones_by-requires-clause-within g c κs l = sets-within (transposed_parts c.args.parts.now) _ (sets-of_columns c.args.parts.now _ c.requires.columns)

pub returns : goal.returns
returns g c =
    flat-from c.args.spacing c.args.overlap c.args.parts.now c.in_ok-zones.zones.items _
    (c.in_ok-zones.ensures (transposed_parts c.args.parts.now) (sets-of_columns c.args.parts.now _ c.requires.columns) (apart-turned c.args.parts.now c.items.ensures.parts.apart)) c.transpose.ensures

pub returns-in_err-zones : goal.returns-in_err-zones
returns-in_err-zones g c = IfOk-from_err _ _ c.from_residual.ensures.0
