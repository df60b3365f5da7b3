use Rattle.std.proofs.Common.{inl, inr, refl}
use Rattle.std.proofs.lemmas.Bool.{false≢true}
use Rattle.dpl_edges.proofs.gather.meet_in.Goals as goal

pub returns-then-near_in : goal.returns-then-near_in
returns-then-near_in c = (λ q. inl (c.if-near_in.ensures.0 refl), λ h. refl)

pub returns : goal.returns
returns c = (
  λ q. inr (c.near_in-2.ensures.0 q),
  λ h. elim h [ inl a ↦ absurd (false≢true (c.if-near_in.ensures.1 a)) | inr b ↦ c.near_in-2.ensures.1 b ],
)
