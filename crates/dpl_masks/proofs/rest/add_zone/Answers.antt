use Rattle.std.proofs.Common.{inl, inr, refl, sym, true≢false}
use Rattle.std.proofs.lemmas.Result.{err_from_is_err_and}
use Rattle.dpl_spec_split.specs.Loops.{farthest}
use Rattle.dpl_masks.proofs.MaskLaws.{nothing_added, patches-more, solid_within, zone_added}
use Rattle.dpl_masks.proofs.rest.add_zone.Goals as goal

pub returns-then-is_same-clause-adds : goal.returns-then-is_same-clause-adds
returns-then-is_same-clause-adds c =
    zone_added _ _ _ _ (inl ((c.if-is_same.ensures).0 refl)) c.in_ok-push.ensures.items

pub returns-then-is_same-2-clause-adds : goal.returns-then-is_same-2-clause-adds
returns-then-is_same-2-clause-adds c =
    zone_added _ _ _ _ (inr ((c.if-is_same-2.ensures).0 refl)) c.in_ok-push-2.ensures.items

pub returns-then-is_same-clause-within : goal.returns-then-is_same-clause-within
returns-then-is_same-clause-within c = patches-more _ _ _ c.in_ok-push.ensures.items c.requires.within (solid_within farthest _ c.requires.zone)

pub returns-then-is_same-2-clause-within : goal.returns-then-is_same-2-clause-within
returns-then-is_same-2-clause-within c = patches-more _ _ _ c.in_ok-push-2.ensures.items c.requires.within (solid_within farthest _ c.requires.zone)

pub returns-clause-within : goal.returns-clause-within
returns-clause-within c = c.requires.within

pub returns-clause-adds : goal.returns-clause-adds
returns-clause-adds c = nothing_added _ _ (λ f p q. elim q.0 [
  | inl a ↦ true≢false (sym ((c.if-is_same.ensures).1 a))
  | inr b ↦ true≢false (sym ((c.if-is_same-2.ensures).1 b))
])

pub returns-in_err-push-clause-adds : goal.returns-in_err-push-clause-adds
returns-in_err-push-clause-adds c = rw (err_from_is_err_and c.from_residual.result c.from_residual.ensures.1).1 tt

pub returns-in_err-push-clause-within : goal.returns-in_err-push-clause-within
returns-in_err-push-clause-within c = rw (err_from_is_err_and c.from_residual.result c.from_residual.ensures.1).1 tt

pub returns-in_err-push-2-clause-adds : goal.returns-in_err-push-2-clause-adds
returns-in_err-push-2-clause-adds c = rw (err_from_is_err_and c.from_residual-in_err-push-2.result c.from_residual-in_err-push-2.ensures.1).1 tt

pub returns-in_err-push-2-clause-within : goal.returns-in_err-push-2-clause-within
returns-in_err-push-2-clause-within c = rw (err_from_is_err_and c.from_residual-in_err-push-2.result c.from_residual-in_err-push-2.ensures.1).1 tt
