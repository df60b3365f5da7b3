use Rattle.std.proofs.Common.{rules, inl, inr, ◌≡◌, ◌/◌, length, ap, arith, ◌∙◌}
use Rattle.std.proofs.lemmas.List.Elements.{Contains-push_cases}
use Rattle.std.proofs.lemmas.Result.{IfOk-from_err}
use Rattle.dpl_spec_layout.specs.Elements.{first_points}
use Rattle.dpl_flatten.proofs.shapes.points_of.Goals as goal

pub loop-i-preserved : goal.loop-i-preserved
loop-i-preserved c = record {
  value = search rules;
  within = λ p h. elim (Contains-push_cases c.loop-i.points.items c.point_at.result p (rw c.in_ok-push.ensures.items at h)) [
    | inl before ↦ c.loop-i.invariant.within p before
    | inr last ↦ rw (← last) c.point_at.ensures.within
  ];
}

pub returns-in_err-points-clause-value : goal.returns-in_err-points-clause-value
returns-in_err-points-clause-value c = IfOk-from_err _ _ c.from_residual.ensures.0

pub returns-in_err-points-clause-within : goal.returns-in_err-points-clause-within
returns-in_err-points-clause-within c = IfOk-from_err _ _ c.from_residual.ensures.0

pub returns-in_err-push-clause-value : goal.returns-in_err-push-clause-value
returns-in_err-push-clause-value c = IfOk-from_err _ _ c.from_residual-in_err-push.ensures.0

pub returns-in_err-push-clause-within : goal.returns-in_err-push-clause-within
returns-in_err-push-clause-within c = IfOk-from_err _ _ c.from_residual-in_err-push.ensures.0

pub returns-clause-value : goal.returns-clause-value
returns-clause-value c =
    let e : c.loop-i.i ≡ length c.args.xy.now / 8 = omega arith in
    c.loop-i.invariant.value ∙ ap (first_points c.args.xy.now) e

pub returns-clause-within : goal.returns-clause-within
returns-clause-within c = c.loop-i.invariant.within
