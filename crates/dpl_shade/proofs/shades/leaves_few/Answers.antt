use Rattle.std.proofs.Common.{refl, arith}
use Rattle.std.proofs.lemmas.Bool.{false≢true}
use Rattle.std.proofs.lemmas.Int.{ints}
use Rattle.dpl_shade.proofs.shades.leaves_few.Goals as goal

pub returns-then-s-slab-2 : goal.returns-then-s-slab-2
returns-then-s-slab-2 c = (λ h. absurd (false≢true h), λ (a, b). absurd (omega (arith, ints, b)))

pub returns : goal.returns
returns c = (λ h. (omega (arith, ints), omega (arith, ints)), λ l. refl)
