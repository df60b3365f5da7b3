use Rattle.dpl_shapes.proofs.Members.{Contains-take, Contains-drop}
use Rattle.dpl_shapes.proofs.bars.loops_along.Goals as goal

pub bar_loops-requires-clause-rest : goal.bar_loops-requires-clause-rest
bar_loops-requires-clause-rest c = λ p h. c.requires.points p (Contains-drop 2 c.args.points.now p (Contains-take _ _ p h))
