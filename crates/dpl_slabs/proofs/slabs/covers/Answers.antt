use Rattle.std.proofs.Common.{rules, arith}
use Rattle.std.proofs.lemmas.Int.{ints}
use Rattle.dpl_slabs.proofs.slabs.covers.Goals as goal

pub returns : goal.returns
returns c = (λ _. record { left = omega (arith, ints); right = omega (arith, ints); low = omega (arith, ints); high = omega (arith, ints) }, λ _. search rules)
