use Rattle.std.proofs.lemmas.Result.{IfOk-from_err}
use Rattle.dpl_zone.proofs.OwnedLaws.{sets-within}
use Rattle.dpl_zone.proofs.all.vertical_zones.Goals as goal

pub upright_zones-requires-clause-within : goal.upright_zones-requires-clause-within
upright_zones-requires-clause-within c = sets-within c.items.result.now _ c.in_ok-slabs.ensures.sets

pub returns : goal.returns
returns c = c.upright_zones.ensures c.args.parts.now (rw c.items.ensures.value at c.in_ok-slabs.ensures.sets) c.items.ensures.parts.apart

pub returns-in_err-slabs : goal.returns-in_err-slabs
returns-in_err-slabs c = IfOk-from_err _ _ c.from_residual.ensures.0
