use Rattle.std.proofs.Common.{arith}
use Rattle.std.proofs.lemmas.Int.{ints}
use Rattle.dpl_piece.proofs.bar.cuts_along.Goals as goal

pub returns : goal.returns
returns c = λ t. record { left = omega (arith, ints); right = omega (arith, ints); low = omega (arith, ints); tall = omega (arith, ints); high = omega (arith, ints) }
