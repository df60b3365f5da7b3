use Rattle.std.proofs.Common.{◌<◌, length, get_or, refl, rules, w32, arith}
use Rattle.std.specs.Prelude.{pos}
use Rattle.std.proofs.lemmas.Int.{to_z-of_z}
use Rattle.std.proofs.lemmas.List.{get_or_default, take_all}
use Rattle.dpl_spec_split.specs.declared.Rect.{Rect}
use Rattle.std.proofs.lemmas.Bool.{false≢true}
use Rattle.dpl_upward.proofs.ActiveLaws.{adds-reach, adds-skip}
use Rattle.std.proofs.lemmas.Result.{IfOk-from_err}
use Rattle.dpl_upward.proofs.active.add_reaching.Goals.{then-is_reaching+in_ok-push, else-is_reaching}
use Rattle.dpl_upward.proofs.active.add_reaching.Goals as goal

abbrev zero : Rect
zero = record { x0 = pos 0; y0 = pos 0; x1 = pos 0; y1 = pos 0 }

pub loop-r-preserved : goal.loop-r-preserved
loop-r-preserved c =
    let here : c.loop-r.r-index < length c.args.rects.now = search rules in
    let r : Rect = get_or c.args.rects.now c.loop-r.r-index zero in
    let r_is = get_or_default c.args.rects.now c.loop-r.r-index zero r here in
    let row = to_z-of_z w32 c.args.low c.ranges.low in
    let before = rw row at c.loop-r.invariant in
    elim c.if-is_reaching.branch [
      | then-is_reaching+in_ok-push w ↦
          (let test = rw row at w.if-is_reaching.ensures in
          rw (row, w.found-is, w.in_ok-push.ensures.items) (adds-reach c.args.rects.now c.loop-r.r-index r here r_is c.args.low _ _ (test.0 refl) before))
      | else-is_reaching w ↦
          (let test = rw row at w.if-is_reaching.ensures in
          rw (row, w.found-is) (adds-skip c.args.rects.now c.loop-r.r-index r here r_is c.args.low _ _ (λ h. absurd (false≢true (test.1 h))) before))
    ]

pub returns : goal.returns
returns c = rw (to_z-of_z w32 c.args.low c.ranges.low, take_all c.loop-r.r-index c.args.rects.now (omega arith)) at c.loop-r.invariant

pub returns-in_err-push : goal.returns-in_err-push
returns-in_err-push c = IfOk-from_err _ _ c.from_residual.ensures.0
