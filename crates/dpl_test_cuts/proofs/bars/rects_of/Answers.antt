use Rattle.dpl_slabs.proofs.SetLaws.{rects-none}
use Rattle.dpl_spec_split.specs.Loops.{farthest}
use Rattle.dpl_test_cuts.proofs.bars.rects_of.Goals as goal

pub loop-next-init : goal.loop-next-init
loop-next-init c = rw c.new-rects.ensures.items (rects-none farthest)
