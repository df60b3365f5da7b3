use Rattle.std.proofs.Common.{◌≡◌, ◌<◌, ◌∙◌, sym, length, get_or, set, rules, w32, FitsSigned, arith}
use Rattle.std.proofs.lemmas.Int.{to_z-of_z}
use Rattle.std.proofs.lemmas.List.{get_or-set_other, length-set, take_more_set}
use Rattle.dpl_spec_split.specs.declared.Rect.{Rect}
use Rattle.dpl_bars.proofs.Steps.{lt-from}
use Rattle.dpl_bars.proofs.AloneLaws.{prefix-apart, alone-more, beside-more}
use Rattle.std.proofs.lemmas.Result.{IfOk-from_err}
use Rattle.dpl_bars.proofs.alone.alone_of.Goals.{then-prefix-bar, else-prefix-bar+in_ok-push}
use Rattle.dpl_bars.proofs.alone.alone_of.Goals as goal

pub loop-i-preserved : goal.loop-i-preserved
loop-i-preserved c =
    let bars = c.args.bars.items in
    let i = c.loop-i.i in
    let (before, _, few, size, ahead) = c.loop-i.invariant in
    let here : i < length bars = omega (arith, size) in
    let bar : Rect = c.index-bar.result.now in
    let read : get_or c.loop-i.alone.items i bar ≡ bar = search rules in
    let bar_is : bar ≡ get_or bars i bar = sym read ∙ ahead i bar (omega arith) here in
    let right : FitsSigned w32 bar.x1 = search rules in
    let prefix = rw (to_z-of_z w32 bar.x1 right, c.deref-in-loop-i.ensures.value) at c.advanced-prefix.ensures in
    let near = rw c.deref.ensures.value at c.in_ok-near.ensures.all in
    elim c.if-prefix-bar.branch [
      | then-prefix-bar w ↦
          let left : FitsSigned w32 bar.x0 = search rules in
          let reach : FitsSigned w32 c.advanced-prefix.result.reach = search rules in
          let test = rw (to_z-of_z w32 c.advanced-prefix.result.reach reach) at w.if-prefix-bar.true in
          let less = lt-from _ _ _ (to_z-of_z w32 bar.x0 left) test in
          let stored : c.if-prefix-bar.alone.items ≡ set c.loop-i.alone.items c.loop-i.kept bar = search rules in
          let there : c.loop-i.kept < length c.loop-i.alone.items = omega (arith, few, here, size) in
          rw (w.others-is, w.kept-is, stored, take_more_set c.loop-i.alone.items c.loop-i.kept bar there) (
            alone-more bars c.args.beside.now c.args.others.now.items _ _ i bar here bar_is c.requires before
                (λ r h. prefix-apart c.in_ok-near.near.items bar _ _ prefix less r (near r h)),
            prefix.passed,
            omega (arith, few),
            length-set c.loop-i.alone.items c.loop-i.kept bar ∙ size,
            λ k d k_more k_in. get_or-set_other c.loop-i.alone.items c.loop-i.kept k bar d (λ e. omega (arith, few, k_more, e)) ∙ ahead k d (omega (arith, k_more)) k_in,
          )
      | else-prefix-bar+in_ok-push w ↦
          rw (w.others-is, w.alone-is, w.kept-is, w.in_ok-push.ensures.items) (
            beside-more bars c.args.beside.now c.args.others.now.items _ _ i bar here bar_is c.requires before,
            prefix.passed,
            omega (arith, few),
            size,
            λ k d k_more k_in. ahead k d (omega (arith, k_more)) k_in,
          )
    ]

pub returns-in_err-near : goal.returns-in_err-near
returns-in_err-near c = IfOk-from_err _ _ c.from_residual.ensures.0

pub returns-in_err-push : goal.returns-in_err-push
returns-in_err-push c = IfOk-from_err _ _ c.from_residual-in_err-push.ensures.0

pub advanced-prefix-requires-clause-rise : goal.advanced-prefix-requires-clause-rise
advanced-prefix-requires-clause-rise c = rw c.deref-in-loop-i.ensures.value c.in_ok-near.ensures.rise

pub advanced-prefix-requires-clause-reach : goal.advanced-prefix-requires-clause-reach
advanced-prefix-requires-clause-reach c = rw c.deref-in-loop-i.ensures.value c.loop-i.invariant.1
