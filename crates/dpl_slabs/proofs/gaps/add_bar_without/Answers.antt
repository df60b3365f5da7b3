use Rattle.std.proofs.Common.{◌<◌, inl, inr, length, get_or, rules, w32, FitsSigned, arith}
use Rattle.std.specs.Prelude.{◌≤ℤ◌}
use Rattle.std.proofs.lemmas.Int.{ints, to_z-of_z}
use Rattle.std.proofs.lemmas.List.{get_or_default}
use Rattle.dpl_spec_split.specs.declared.Rect.{Rect}
use Rattle.dpl_slabs.proofs.Firsts.{zero}
use Rattle.dpl_slabs.proofs.StripLaws.{max-known}
use Rattle.dpl_slabs.proofs.GapLaws.{le-true, le-false, cut-end, cut-next, cut-last, spaced-rise}
use Rattle.std.proofs.lemmas.Result.{IfOk-from_err}
use Rattle.dpl_slabs.proofs.gaps.add_bar_without.Goals as goal

pub returns-then-bar-gap : goal.returns-then-bar-gap
returns-then-bar-gap c =
    let gaps = c.args.gaps.now in
    let here : c.loop-at.at < length gaps = search rules in
    let gap : Rect = get_or gaps c.loop-at.at zero in
    let end : FitsSigned w32 c.args.bar.now.x1 = search rules in
    let over : c.args.bar.now.x1 ≤ℤ gap.x0 = grind (arith, ints) in
    let adds = rw (to_z-of_z w32 c.args.bar.now.x1 end) at c.in_ok-add_columns.ensures in
    cut-end c.args.bar.now gaps c.requires.solid c.requires.gaps c.requires.level c.args.left.now.items c.loop-at.at c.loop-at.at _ _ _ c.loop-at.invariant (omega arith)
    (λ k d l k_in. (let h = spaced-rise gaps c.loop-at.at k gap d c.requires.gaps l k_in (get_or_default gaps c.loop-at.at zero gap here) in omega (arith, ints, h, over))) adds

pub returns-then-bar-x : goal.returns-then-bar-x
returns-then-bar-x c =
    let gaps = c.args.gaps.now in
    let here : c.loop-at.at < length gaps = search rules in
    let gap : Rect = get_or gaps c.loop-at.at zero in
    let left : FitsSigned w32 gap.x0 = search rules in
    let right : FitsSigned w32 gap.x1 = search rules in
    let end : FitsSigned w32 c.args.bar.now.x1 = search rules in
    let reach : FitsSigned w32 c.max-x.result = search rules in
    let meets = le-false _ _ (rw (to_z-of_z w32 c.args.bar.now.x1 end, to_z-of_z w32 gap.x0 left) at c.if-bar-gap.false) in
    let done = le-true _ _ (rw (to_z-of_z w32 c.args.bar.now.x1 end, to_z-of_z w32 c.max-x.result reach) at c.if-bar-x.true) in
    let past = rw (to_z-of_z w32 gap.x1 right) at c.max-x.ensures.other_bound in
    let adds = rw (to_z-of_z w32 gap.x0 left) at c.in_ok-add_columns-2.ensures in
    cut-last c.args.bar.now gaps c.requires.solid c.requires.gaps c.requires.level c.args.left.now.items c.loop-at.at _ c.max-x.result gap
    _ _ c.loop-at.invariant here (get_or_default gaps c.loop-at.at zero gap here) meets c.max-x.ensures.self_bound past
    (max-known _ _ gap.x1 _ (to_z-of_z w32 gap.x1 right) c.max-x.ensures.value) adds done

pub loop-at-preserved : goal.loop-at-preserved
loop-at-preserved c =
    let gaps = c.args.gaps.now in
    let here : c.loop-at.at < length gaps = search rules in
    let gap : Rect = get_or gaps c.loop-at.at zero in
    let left : FitsSigned w32 gap.x0 = search rules in
    let right : FitsSigned w32 gap.x1 = search rules in
    let end : FitsSigned w32 c.args.bar.now.x1 = search rules in
    let reach : FitsSigned w32 c.max-x.result = search rules in
    let meets = le-false _ _ (rw (to_z-of_z w32 c.args.bar.now.x1 end, to_z-of_z w32 gap.x0 left) at c.if-bar-gap.false) in
    let room = le-false _ _ (rw (to_z-of_z w32 c.args.bar.now.x1 end, to_z-of_z w32 c.max-x.result reach) at c.if-bar-x.false) in
    let past = rw (to_z-of_z w32 gap.x1 right) at c.max-x.ensures.other_bound in
    let adds = rw (to_z-of_z w32 gap.x0 left) at c.in_ok-add_columns-2.ensures in
    rw (to_z-of_z w32 c.max-x.result reach)
    (cut-next c.args.bar.now gaps c.requires.solid c.requires.gaps c.requires.level c.args.left.now.items c.loop-at.at _ c.max-x.result gap
    _ _ c.loop-at.invariant here (get_or_default gaps c.loop-at.at zero gap here) meets c.max-x.ensures.self_bound past
    (max-known _ _ gap.x1 _ (to_z-of_z w32 gap.x1 right) c.max-x.ensures.value) adds room)

pub returns : goal.returns
returns c =
    let end : FitsSigned w32 c.args.bar.now.x1 = search rules in
    let adds = rw (to_z-of_z w32 c.args.bar.now.x1 end) at c.in_ok-add_columns-3.ensures in
    cut-end c.args.bar.now c.args.gaps.now c.requires.solid c.requires.gaps c.requires.level c.args.left.now.items c.loop-at.at
    (length c.args.gaps.now) _ _ _ c.loop-at.invariant (omega arith)
    (λ k d l k_in. absurd (omega (arith, l, k_in))) adds

pub returns-in_err-add_columns : goal.returns-in_err-add_columns
returns-in_err-add_columns c = IfOk-from_err _ _ c.from_residual.ensures.0

pub returns-in_err-add_columns-2 : goal.returns-in_err-add_columns-2
returns-in_err-add_columns-2 c = IfOk-from_err _ _ c.from_residual-in_err-add_columns-2.ensures.0

pub returns-in_err-add_columns-3 : goal.returns-in_err-add_columns-3
returns-in_err-add_columns-3 c = IfOk-from_err _ _ c.from_residual-in_err-add_columns-3.ensures.0

pub loop-at-init : goal.loop-at-init
loop-at-init c =
    let first : FitsSigned w32 c.args.bar.now.x0 = search rules in
    let wide = c.requires.solid.wide in
    rw (to_z-of_z w32 c.args.bar.now.x0 first) (record {
      before = c.requires.before;
      passed = c.requires.passed;
      covers = λ p. (λ h. inl h, λ h. elim h [ inl k ↦ k | inr (has, less, none) ↦ absurd (let left = has.left in omega (arith, ints, left, less)) ]);
      from = omega (arith, ints);
      ahead = omega (arith, ints, wide);
    })
