use Rattle.dpl_reals.proofs.Powers.{degrees-step}
use Rattle.dpl_reals.proofs.shifted_up.Goals as goal

pub loop-place-preserved : goal.loop-place-preserved
loop-place-preserved c = degrees-step _ _ _ c.loop-place.invariant
