use Rattle.std.proofs.Common.{◌≡◌, ℕ, ◌<◌, length, sym, subst, arith}
use Rattle.std.specs.Prelude.{◌↔◌}
use Rattle.std.proofs.lemmas.List.{get_or_default}
use Rattle.std.proofs.lemmas.List.Elements.{Contains-get_or}
use Rattle.std.proofs.lemmas.Result.{IfOk-from_err, IfOk-weaker}
use Rattle.dpl_spec_split.specs.declared.Pt.{Pt}
use Rattle.dpl_spec_split.specs.Squares.{Covers}
use Rattle.dpl_spec_split.specs.Loops.{farthest}
use Rattle.dpl_slabs.proofs.SetLaws.{rects-more, rects-none}
use Rattle.dpl_masks.specs.Painting.{HoldFrom}
use Rattle.dpl_masks.proofs.RestLaws.{from-more, from-none, held-slabs}
use Rattle.dpl_masks.proofs.united.own_slabs.Goals as goal

pub loop-k-init : goal.loop-k-init
loop-k-init c = record {
  covers = from-none c.args.patches.now c.args.start _ c.in_ok-rects.ensures.items;
  within = rw c.in_ok-rects.ensures.items (rects-none farthest);
}

pub loop-k-preserved : goal.loop-k-preserved
loop-k-preserved c =
    let end = c.requires.end in
    let k_in : c.loop-k.k < length c.args.patches.now = omega arith in
    record {
      covers = from-more c.args.patches.now c.args.start c.loop-k.k _ _ _ c.loop-k.auto.k
          (sym (get_or_default c.args.patches.now c.loop-k.k _ _ k_in)) k_in c.loop-k.invariant.covers c.in_ok-push.ensures.items;
      within = rw c.in_ok-push.ensures.items (rects-more farthest _ _ c.loop-k.invariant.within
          (c.requires.within _ (Contains-get_or c.args.patches.now c.loop-k.k _ k_in)));
    }

pub returns : goal.returns
returns c =
    let start = c.requires.start in
    let all : c.loop-k.k ≡ c.args.end = omega arith in
    let covers = subst (λ (n : ℕ). (p : Pt) → Covers c.loop-k.rects.items p ↔ HoldFrom c.args.patches.now c.args.start n p) all c.loop-k.invariant.covers in
    IfOk-weaker _ _ _ (λ s h. held-slabs c.args.patches.now c.args.start c.args.end _ s covers h) c.of_rects.ensures

pub returns-in_err-rects : goal.returns-in_err-rects
returns-in_err-rects c = IfOk-from_err _ _ c.from_residual.ensures.0

pub returns-in_err-push : goal.returns-in_err-push
returns-in_err-push c = IfOk-from_err _ _ c.from_residual-in_err-push.ensures.0
