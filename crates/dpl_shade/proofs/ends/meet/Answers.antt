use Rattle.std.proofs.Common.{refl, arith}
use Rattle.std.proofs.lemmas.Bool.{false≢true}
use Rattle.std.proofs.lemmas.Int.{ints}
use Rattle.dpl_shade.proofs.ends.meet.Goals as goal

pub returns-then-under-over : goal.returns-then-under-over
returns-then-under-over c = (λ h. absurd (false≢true h), λ m. absurd (let a = m.left in omega (arith, ints, a)))

pub returns-then-over-under-2 : goal.returns-then-over-under-2
returns-then-over-under-2 c = (λ h. absurd (false≢true h), λ m. absurd (let a = m.right in omega (arith, ints, a)))

pub returns : goal.returns
returns c = (λ h. record { row = omega (arith, ints); left = omega (arith, ints); right = omega (arith, ints) }, λ m. refl)
