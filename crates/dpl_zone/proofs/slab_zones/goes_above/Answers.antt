use Rattle.std.proofs.Common.{inl, inr, arith}
use Rattle.std.proofs.lemmas.Int.{ints}
use Rattle.dpl_zone.proofs.slab_zones.goes_above.Goals as goal

pub returns-then-g-slab : goal.returns-then-g-slab
returns-then-g-slab c = (λ h. inl (omega (arith, ints)), λ h. c.if-g-slab.true)

pub returns-else-g-slab : goal.returns-else-g-slab
returns-else-g-slab c = (λ h. inr h, λ h. elim h [ inl l ↦ absurd (omega (arith, ints, l)) | inr above ↦ above ])
