use Rattle.dpl_test_cuts.proofs.tall.barred.Goals as goal

pub loop-b-init : goal.loop-b-init
loop-b-init c = c.in_ok-rects.ensures
