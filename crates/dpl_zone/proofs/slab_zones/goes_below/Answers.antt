use Rattle.std.proofs.Common.{inl, inr, arith}
use Rattle.std.proofs.lemmas.Int.{ints}
use Rattle.dpl_zone.proofs.slab_zones.goes_below.Goals as goal

pub returns-then-slab-g : goal.returns-then-slab-g
returns-then-slab-g c = (λ h. inl (omega (arith, ints)), λ h. c.if-slab-g.true)

pub returns-else-slab-g : goal.returns-else-slab-g
returns-else-slab-g c = (λ h. inr h, λ h. elim h [ inl l ↦ absurd (omega (arith, ints, l)) | inr below ↦ below ])
