use Rattle.std.proofs.Common.{refl, rules, w32, FitsSigned}
use Rattle.std.proofs.lemmas.Int.{to_z-of_z}
use Rattle.dpl_slabs.proofs.StripLaws.{max-known}
use Rattle.dpl_slabs.proofs.SliceLaws.{pushed-bar, widened-bar}
use Rattle.std.proofs.lemmas.Result.{IfOk-from_err}
use Rattle.dpl_slabs.proofs.slices.push_bar.Goals as goal

pub returns-then-widens : goal.returns-then-widens
returns-then-widens c =
    let x0 : FitsSigned w32 c.in-Some.last.x0 = search rules in
    let y0 : FitsSigned w32 c.in-Some.last.y0 = search rules in
    let y1 : FitsSigned w32 c.in-Some.last.y1 = search rules in
    let right : FitsSigned w32 c.in-Some.last.x1 = search rules in
    let end : FitsSigned w32 c.args.bar.x1 = search rules in
    let max : FitsSigned w32 c.max-x1.result = search rules in
    let over = rw (to_z-of_z w32 _ right) at c.max-x1.ensures.self_bound in
    let over_too = rw (to_z-of_z w32 _ end) at c.max-x1.ensures.other_bound in
    rw (c.in-Some.ensures.items, c.in_ok-push-in-Some.ensures.items, to_z-of_z w32 _ x0, to_z-of_z w32 _ y0, to_z-of_z w32 _ y1, to_z-of_z w32 _ max)
    (widened-bar _ c.in-Some.last c.args.bar c.max-x1.result (c.if-widens.ensures.0 refl) over over_too
    (rw (to_z-of_z w32 _ right) at (max-known _ _ c.args.bar.x1 _ (to_z-of_z w32 c.args.bar.x1 end) c.max-x1.ensures.value)))

pub returns-in_ok-push-in-Some-3 : goal.returns-in_ok-push-in-Some-3
returns-in_ok-push-in-Some-3 c =
    rw (c.in-Some.ensures.items, c.in_ok-push-in-Some-3.ensures.items, c.in_ok-push-in-Some-2.ensures.items) (pushed-bar _ c.args.bar)

pub returns-in_err-push-in-Some-3 : goal.returns-in_err-push-in-Some-3
returns-in_err-push-in-Some-3 c = IfOk-from_err _ _ c.from_residual-in_err-push-in-Some-3.ensures.0

pub returns-in_err-push-in-Some : goal.returns-in_err-push-in-Some
returns-in_err-push-in-Some c = IfOk-from_err _ _ c.from_residual-in_err-push-in-Some.ensures.0

pub returns-in_err-push-in-Some-2 : goal.returns-in_err-push-in-Some-2
returns-in_err-push-in-Some-2 c = IfOk-from_err _ _ c.from_residual-in_err-push-in-Some-2.ensures.0

pub returns-in_err-push-in-None : goal.returns-in_err-push-in-None
returns-in_err-push-in-None c = IfOk-from_err _ _ c.from_residual.ensures.0
