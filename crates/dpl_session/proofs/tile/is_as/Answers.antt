use Rattle.std.proofs.Common.{◌∙◌, sym, refl}
use Rattle.dpl_session.proofs.tile.is_as.Goals as goal

pub returns : goal.returns
returns c = (
  λ t. (c.if-not-same_slabs.ensures.0 refl, sym c.items.ensures ∙ (c.same.ensures.0 t ∙ c.items-2.ensures)),
  λ (s, l). c.same.ensures.1 (c.items.ensures ∙ (l ∙ sym c.items-2.ensures)),
)
