use Rattle.std.proofs.lemmas.Result.{IfOk-from_err}
use Rattle.dpl_spec_layout.specs.Elements.{points_in}
use Rattle.dpl_flatten.proofs.WithinLaws.{one_straight, one_within}
use Rattle.dpl_flatten.proofs.cells.draw_boundary.Goals as goal

pub returns-clause-straight : goal.returns-clause-straight
returns-clause-straight c = one_straight (points_in c.args.xy.now) c.requires

pub returns-clause-within : goal.returns-clause-within
returns-clause-within c = one_within (points_in c.args.xy.now) c.in_ok-points.ensures.within

pub returns-in_err-points-clause-outlines : goal.returns-in_err-points-clause-outlines
returns-in_err-points-clause-outlines c = IfOk-from_err _ _ c.from_residual.ensures.0

pub returns-in_err-points-clause-straight : goal.returns-in_err-points-clause-straight
returns-in_err-points-clause-straight c = IfOk-from_err _ _ c.from_residual.ensures.0

pub returns-in_err-points-clause-within : goal.returns-in_err-points-clause-within
returns-in_err-points-clause-within c = IfOk-from_err _ _ c.from_residual.ensures.0

pub returns-in_err-push-clause-outlines : goal.returns-in_err-push-clause-outlines
returns-in_err-push-clause-outlines c = IfOk-from_err _ _ c.from_residual-in_err-push.ensures.0

pub returns-in_err-push-clause-straight : goal.returns-in_err-push-clause-straight
returns-in_err-push-clause-straight c = IfOk-from_err _ _ c.from_residual-in_err-push.ensures.0

pub returns-in_err-push-clause-within : goal.returns-in_err-push-clause-within
returns-in_err-push-clause-within c = IfOk-from_err _ _ c.from_residual-in_err-push.ensures.0
