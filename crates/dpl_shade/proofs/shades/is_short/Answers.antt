use Rattle.std.proofs.Common.{refl, arith}
use Rattle.std.proofs.lemmas.Int.{ints}
use Rattle.dpl_shade.proofs.shades.is_short.Goals as goal

pub returns-then-slab-overlap : goal.returns-then-slab-overlap
returns-then-slab-overlap c = (λ h. omega (arith, ints), λ l. refl)
