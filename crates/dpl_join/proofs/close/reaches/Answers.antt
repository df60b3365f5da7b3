use Rattle.std.proofs.Common.{arith}
use Rattle.std.proofs.lemmas.Int.{ints}
use Rattle.dpl_join.proofs.close.reaches.Goals as goal

pub returns : goal.returns
returns c = (λ h. omega (arith, ints), λ l. grind (arith, ints))
