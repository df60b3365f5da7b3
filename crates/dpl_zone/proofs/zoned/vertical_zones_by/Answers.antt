use Rattle.std.proofs.lemmas.Result.{IfOk-from_err}
use Rattle.dpl_zone.proofs.OwnedLaws.{sets-within}
use Rattle.dpl_zone.proofs.zoned.vertical_zones_by.Goals as goal

pub upright_zones_by-requires-clause-within : goal.upright_zones_by-requires-clause-within
upright_zones_by-requires-clause-within g c κs l = sets-within c.items.result.now _ c.in_ok-slabs.ensures.sets

pub returns : goal.returns
returns g c = c.upright_zones_by.ensures c.args.parts.now (rw c.items.ensures.value at c.in_ok-slabs.ensures.sets) c.items.ensures.parts.apart

pub returns-in_err-slabs : goal.returns-in_err-slabs
returns-in_err-slabs g c = IfOk-from_err _ _ c.from_residual.ensures.0
