use Rattle.dpl_walk.proofs.gathered.keep.Goals as goal

pub returns-in-Bar : goal.returns-in-Bar
returns-in-Bar c = rw (← c.shape.ensures, c.in-Bar.is) c.keep_bar.ensures
