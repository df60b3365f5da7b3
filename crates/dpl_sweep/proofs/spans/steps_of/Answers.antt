use Rattle.std.proofs.Common.{◌≤◌, ◌<◌, ◌-◌, inl, length, rules, w32, arith, FitsSigned, ◌≡◌, inr}
use Rattle.std.proofs.lemmas.Int.{to_z-of_z}
use Rattle.dpl_sweep.specs.Spans.{row_at}
use Rattle.dpl_sweep.proofs.StepLaws.{steps-next}
use Rattle.std.proofs.lemmas.Result.{IfOk-from_err}
use Rattle.dpl_sweep.proofs.spans.steps_of.Goals as goal

pub loop-k-preserved : goal.loop-k-preserved
loop-k-preserved c =
    let here : c.loop-k.k < length c.args.ends.now = search rules in
    let some : 1 ≤ c.loop-k.k = search rules in
    let low : FitsSigned w32 (row_at c.args.ends.now (c.loop-k.k - 1)) = search rules in
    let high : FitsSigned w32 (row_at c.args.ends.now c.loop-k.k) = search rules in (
      inl (omega (arith, here)),
      steps-next c.args.ends.now c.loop-k.k _ _ c.requires some here
          (rw (to_z-of_z w32 _ low, to_z-of_z w32 _ high) at c.in_ok-add_step.ensures) c.loop-k.invariant.1,
    )

pub returns-in_err-add_step : goal.returns-in_err-add_step
returns-in_err-add_step c = IfOk-from_err _ _ c.from_residual.ensures.0

pub returns : goal.returns
returns c =
    let (within, steps) = c.loop-k.invariant in
    let same : c.loop-k.k - 1 ≡ length c.args.ends.now - 1 = elim within [ inl some ↦ omega (arith, some) | inr first ↦ omega (arith, first) ] in
    rw same at steps
