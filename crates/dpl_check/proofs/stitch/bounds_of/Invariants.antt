use Rattle.dpl_check.proofs.Around.{IsAroundOf}
use Rattle.dpl_check.proofs.stitch.bounds_of.Given as goal

abbrev pub invariant-loop-stitch : goal.invariant-loop-stitch
invariant-loop-stitch l = IsAroundOf l.stitches l.stitch-index l.bounds
