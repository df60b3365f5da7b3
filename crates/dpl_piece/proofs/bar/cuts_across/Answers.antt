use Rattle.std.proofs.Common.{arith}
use Rattle.std.proofs.lemmas.Int.{ints}
use Rattle.dpl_piece.proofs.bar.cuts_across.Goals as goal

pub returns : goal.returns
returns c = λ t. record { low = omega (arith, ints); high = omega (arith, ints); left = omega (arith, ints); wide = omega (arith, ints); right = omega (arith, ints) }
