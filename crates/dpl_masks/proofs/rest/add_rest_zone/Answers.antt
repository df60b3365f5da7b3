use Rattle.std.proofs.Common.{refl}
use Rattle.std.proofs.lemmas.Result.{err_from_is_err_and}
use Rattle.dpl_masks.proofs.MaskLaws.{adds_same}
use Rattle.dpl_masks.proofs.rest.add_rest_zone.Goals as goal

pub returns-in_ok-add_zone-clause-adds : goal.returns-in_ok-add_zone-clause-adds
returns-in_ok-add_zone-clause-adds c = adds_same _ _ _ _ (λ f p. (λ h. (c.if-is_mixed.ensures.0 refl, h.0, h.1, h.2), λ h. (h.1, h.2, h.3))) c.in_ok-add_zone.ensures.adds

pub returns-in_err-add_zone-clause-adds : goal.returns-in_err-add_zone-clause-adds
returns-in_err-add_zone-clause-adds c = rw (err_from_is_err_and c.from_residual.result c.from_residual.ensures.1).1 tt

pub returns-in_err-add_zone-clause-within : goal.returns-in_err-add_zone-clause-within
returns-in_err-add_zone-clause-within c = rw (err_from_is_err_and c.from_residual.result c.from_residual.ensures.1).1 tt
