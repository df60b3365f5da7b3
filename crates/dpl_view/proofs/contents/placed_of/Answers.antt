use Rattle.std.proofs.Common.{map, ap, ◌∙◌}
use Rattle.std.proofs.lemmas.Result.{IfOk-from_err}
use Rattle.dpl_flatten.specs.Totals.{capped_points}
use Rattle.dpl_view.proofs.contents.placed_of.Goals as goal

pub returns-in-Ok : goal.returns-in-Ok
returns-in-Ok c =
    let (top, is, whole, counts) = c.in-Ok.ensures.points in
    (top, is, whole, counts ∙ ap (λ xs. map (capped_points c.args.lib.now top) xs) (c.deref.ensures.value ∙ c.in_ok-chosen.ensures))

pub returns-in_err-chosen : goal.returns-in_err-chosen
returns-in_err-chosen c = IfOk-from_err _ _ c.from_residual.ensures.0
