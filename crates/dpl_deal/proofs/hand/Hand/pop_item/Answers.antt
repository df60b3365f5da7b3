use Rattle.std.proofs.Common.{arith}
use Rattle.dpl_deal.proofs.Moves.{finds, takes}
use Rattle.dpl_deal.proofs.hand.Hand.pop_item.Goals as goal

pub pop_as-requires-clause-fifo : goal.pop_as-requires-clause-fifo
pop_as-requires-clause-fifo c = λ _. takes _ _ c.args.self.now.part (c.args.self.now.due c.requires.due)

pub pop_as-requires-clause-lifo : goal.pop_as-requires-clause-lifo
pop_as-requires-clause-lifo c = λ lt. absurd (let f = c.args.self.now.fifo in omega (arith, lt, f))

pub pop_as-requires-clause-empty : goal.pop_as-requires-clause-empty
pop_as-requires-clause-empty c = finds _ _
