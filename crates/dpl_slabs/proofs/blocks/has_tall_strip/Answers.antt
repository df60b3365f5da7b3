use Rattle.dpl_slabs.proofs.StripLaws.{rise-drop}
use Rattle.dpl_slabs.proofs.blocks.has_tall_strip.Goals as goal

pub loop-rest-preserved : goal.loop-rest-preserved
loop-rest-preserved c = rw c.split_at.ensures.back (rise-drop c.strip_length.result _ c.loop-rest.invariant)
