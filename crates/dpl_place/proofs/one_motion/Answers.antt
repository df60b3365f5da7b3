use Rattle.dpl_place.proofs.Knowing as K
use Rattle.dpl_place.proofs.one_motion.Goals as goal

pub returns : goal.returns
returns c = K.one_motion
