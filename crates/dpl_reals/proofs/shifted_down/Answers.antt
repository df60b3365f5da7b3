use Rattle.std.proofs.Common.{arith}
use Rattle.dpl_reals.proofs.Powers.{none-past, none-rest, pow-fits, pow-some}
use Rattle.dpl_reals.proofs.shifted_down.Goals as goal

pub returns-then-places-gt13-clause-none : goal.returns-then-places-gt13-clause-none
returns-then-places-gt13-clause-none c = λ v. none-past c.args.mantissa c.args.places v c.requires (omega arith) (omega arith)

pub pow-unit-requires : goal.pow-unit-requires
pow-unit-requires c = pow-fits c.args.places (omega arith)

pub nonzero_rem-mantissa : goal.nonzero_rem-mantissa
nonzero_rem-mantissa c = let h = pow-some c.args.places in omega (arith, h, c.pow-unit.ensures)

pub returns-then-mantissa-unit-ne0-clause-none : goal.returns-then-mantissa-unit-ne0-clause-none
returns-then-mantissa-unit-ne0-clause-none c = λ v. none-rest c.args.mantissa c.args.places c.pow-unit.result v c.pow-unit.ensures (omega arith)
