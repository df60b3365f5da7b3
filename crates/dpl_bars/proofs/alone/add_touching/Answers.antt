use Rattle.std.proofs.Common.{◌<◌, inr, length, get_or, rules, w32, FitsSigned, arith}
use Rattle.std.proofs.lemmas.Int.{to_z-of_z}
use Rattle.std.proofs.lemmas.List.{get_or_default, take_all}
use Rattle.dpl_spec_split.specs.declared.Rect.{Rect}
use Rattle.dpl_bars.proofs.Steps.{zero}
use Rattle.dpl_bars.proofs.Steps.{le-false}
use Rattle.dpl_bars.proofs.AloneLaws.{prefix-apart, touching-apart, touching-more}
use Rattle.std.proofs.lemmas.Result.{IfOk-from_err}
use Rattle.dpl_bars.proofs.alone.add_touching.Goals.{then-bar-prefix+in_ok-push, else-bar-prefix}
use Rattle.dpl_bars.proofs.alone.add_touching.Goals as goal

pub loop-bar-preserved : goal.loop-bar-preserved
loop-bar-preserved c =
    let bars = c.args.bars.now in
    let here : c.loop-bar.bar-index < length bars = omega arith in
    let bar : Rect = get_or bars c.loop-bar.bar-index zero in
    let bar_is = get_or_default bars c.loop-bar.bar-index zero bar here in
    let right : FitsSigned w32 bar.x1 = search rules in
    let prefix = rw (to_z-of_z w32 bar.x1 right, c.deref.ensures.value) at c.advanced-prefix.ensures in
    let (before, _) = c.loop-bar.invariant in (
      elim c.if-bar-prefix.branch [
        | then-bar-prefix+in_ok-push w ↦
            rw (w.others-is, w.in_ok-push.ensures.items)
            (touching-more bars c.args.beside.now c.args.others.now.items _ c.loop-bar.bar-index bar here bar_is before)
        | else-bar-prefix w ↦
            let left : FitsSigned w32 bar.x0 = search rules in
            let reach : FitsSigned w32 c.advanced-prefix.result.reach = search rules in
            let less = le-false _ _ (rw (to_z-of_z w32 c.advanced-prefix.result.reach reach, to_z-of_z w32 bar.x0 left) at w.if-bar-prefix.false) in
            rw w.others-is
            (touching-apart bars c.args.beside.now c.args.others.now.items _ c.loop-bar.bar-index bar here bar_is before
            (λ s h. prefix-apart c.in_ok-near.near.items bar _ _ prefix less s (c.in_ok-near.ensures.all s (inr h))))
      ],
      prefix.passed,
    )

pub returns-in_err-near : goal.returns-in_err-near
returns-in_err-near c = IfOk-from_err _ _ c.from_residual.ensures.0

pub returns-in_err-push : goal.returns-in_err-push
returns-in_err-push c = IfOk-from_err _ _ c.from_residual-in_err-push.ensures.0

pub advanced-prefix-requires-clause-rise : goal.advanced-prefix-requires-clause-rise
advanced-prefix-requires-clause-rise c = rw c.deref.ensures.value c.in_ok-near.ensures.rise

pub advanced-prefix-requires-clause-reach : goal.advanced-prefix-requires-clause-reach
advanced-prefix-requires-clause-reach c = rw c.deref.ensures.value c.loop-bar.invariant.1

pub returns : goal.returns
returns c = (let test = c.loop-bar-test.false in rw (take_all c.loop-bar.bar-index c.args.bars.now (omega (arith, test))) at c.loop-bar.invariant.0)
