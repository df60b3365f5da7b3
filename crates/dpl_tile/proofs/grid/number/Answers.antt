use Rattle.dpl_tile.proofs.Numbers.{ahead-fits, ahead-casts, number-none, number-cast, number-small, number-value}
use Rattle.dpl_tile.proofs.grid.number.Goals as goal

pub overflow_sub-ahead : goal.overflow_sub-ahead
overflow_sub-ahead c = ahead-fits c.args.low c.args.i c.requires.from c.requires.low c.requires.high

pub overflow_cast-ahead : goal.overflow_cast-ahead
overflow_cast-ahead c = ahead-casts c.args.low c.args.i c.requires.from c.requires.low c.requires.high

pub returns-then-ahead-side-clause-value : goal.returns-then-ahead-side-clause-value
returns-then-ahead-side-clause-value c = number-none c.args.side c.args.low c.args.i c.requires.from c.requires.low c.requires.high c.if-ahead-side.true

pub overflow_cast-result : goal.overflow_cast-result
overflow_cast-result c = number-cast c.args.side c.args.low c.args.i c.requires.from c.requires.low c.requires.high

pub returns-clause-value : goal.returns-clause-value
returns-clause-value c = number-value c.args.side c.args.low c.args.i c.requires.from c.requires.low c.requires.high

pub returns-clause-small : goal.returns-clause-small
returns-clause-small c = number-small c.args.side c.args.low c.args.i c.requires.from c.requires.low c.requires.high
