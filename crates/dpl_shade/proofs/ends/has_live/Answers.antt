use Rattle.std.proofs.Common.{arith}
use Rattle.std.proofs.lemmas.Bool.{false≢true}
use Rattle.dpl_shade.proofs.ends.has_live.Goals as goal

pub returns : goal.returns
returns c = (λ h. absurd (false≢true h), λ (k, a, b, live). absurd (c.loop-k.invariant (k, a, omega (arith, b), live)))
