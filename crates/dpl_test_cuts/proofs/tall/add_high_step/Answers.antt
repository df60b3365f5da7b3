use Rattle.dpl_slabs.proofs.SetLaws.{rects-more}
use Rattle.dpl_test_cuts.proofs.tall.add_high_step.Goals as goal

pub returns : goal.returns
returns c = rw c.in_ok-push.ensures.items (rects-more 1000000000 _ _ c.requires.within c.high_step.ensures)
