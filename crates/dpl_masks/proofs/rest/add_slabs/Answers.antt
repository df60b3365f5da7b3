use Rattle.std.proofs.Common.{◌≡◌, ◌<◌, ◌≤◌, List, length, subst, sym, arith}
use Rattle.std.proofs.lemmas.Result.{err_from_is_err_and}
use Rattle.std.proofs.lemmas.List.{get_or_default, take_all}
use Rattle.std.proofs.lemmas.List.Elements.{Contains-get_or}
use Rattle.dpl_spec_split.specs.declared.Rect.{Rect}
use Rattle.dpl_spec_split.specs.Squares.{Covers}
use Rattle.dpl_masks.specs.Painting.{Adds}
use Rattle.dpl_masks.proofs.MaskLaws.{patches-more}
use Rattle.dpl_masks.proofs.RestLaws.{no-slabs, slabs-more}
use Rattle.dpl_masks.proofs.rest.add_slabs.Goals as goal

pub loop-k-init : goal.loop-k-init
loop-k-init c = record { adds = no-slabs c.args.feature c.args.slabs.now _; within = c.requires.within }

pub loop-k-preserved : goal.loop-k-preserved
loop-k-preserved c =
    let k_in : c.loop-k.k < length c.args.slabs.now = omega arith in
    record {
      adds = slabs-more c.args.feature c.loop-k.k c.args.slabs.now _ _ _ _ k_in (sym (get_or_default c.args.slabs.now c.loop-k.k _ _ k_in))
          c.loop-k.invariant.adds c.in_ok-push.ensures.items;
      within = patches-more _ _ _ c.in_ok-push.ensures.items c.loop-k.invariant.within
          (c.requires.slabs _ (Contains-get_or c.args.slabs.now c.loop-k.k _ k_in));
    }

pub returns-clause-adds : goal.returns-clause-adds
returns-clause-adds c =
    let all : length c.args.slabs.now ≤ c.loop-k.k = omega arith in
    subst (λ (l : List Rect). Adds c.args.patches.now.items c.loop-k.patches.items (λ f p. (c.args.feature ≡ f) × Covers l p))
    (take_all c.loop-k.k c.args.slabs.now all) c.loop-k.invariant.adds

pub returns-in_err-push-clause-adds : goal.returns-in_err-push-clause-adds
returns-in_err-push-clause-adds c = rw (err_from_is_err_and c.from_residual.result c.from_residual.ensures.1).1 tt

pub returns-in_err-push-clause-within : goal.returns-in_err-push-clause-within
returns-in_err-push-clause-within c = rw (err_from_is_err_and c.from_residual.result c.from_residual.ensures.1).1 tt
