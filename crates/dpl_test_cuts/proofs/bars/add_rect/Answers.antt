use Rattle.dpl_slabs.proofs.SetLaws.{rects-more}
use Rattle.dpl_spec_split.specs.Loops.{farthest}
use Rattle.dpl_test_cuts.proofs.bars.add_rect.Goals as goal

pub returns : goal.returns
returns c = rw c.in_ok-push.ensures.items (rects-more farthest _ _ c.requires c.in-Some.ensures)
