use Rattle.std.proofs.Common.{refl, sym, true≢false}
use Rattle.std.proofs.lemmas.Result.{err_from_is_err_and}
use Rattle.dpl_masks.proofs.MaskLaws.{adds_same, nothing_added}
use Rattle.dpl_masks.proofs.rest.add_rest_piece.Goals as goal

pub returns-then-not-is_mixed-clause-adds : goal.returns-then-not-is_mixed-clause-adds
returns-then-not-is_mixed-clause-adds c = nothing_added _ _ (λ f p q. true≢false (sym ((c.if-not-is_mixed.ensures).1 q.0)))

pub returns-then-not-is_same-clause-adds : goal.returns-then-not-is_same-clause-adds
returns-then-not-is_same-clause-adds c = nothing_added _ _ (λ f p q. true≢false (sym ((c.if-not-is_same.ensures).1 q.1)))

pub returns-clause-adds : goal.returns-clause-adds
returns-clause-adds c =
    adds_same _ _ _ _ (λ f p. (λ h. (c.if-not-is_mixed.ensures.0 refl, c.if-not-is_same.ensures.0 refl, h.0, h.1), λ h. (h.2, h.3)))
    c.in_ok-add_slabs.ensures.adds

pub returns-in_err-add_slabs-clause-adds : goal.returns-in_err-add_slabs-clause-adds
returns-in_err-add_slabs-clause-adds c = rw (err_from_is_err_and c.from_residual.result c.from_residual.ensures.1).1 tt

pub returns-in_err-add_slabs-clause-within : goal.returns-in_err-add_slabs-clause-within
returns-in_err-add_slabs-clause-within c = rw (err_from_is_err_and c.from_residual.result c.from_residual.ensures.1).1 tt
