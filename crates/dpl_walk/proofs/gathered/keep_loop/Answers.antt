use Rattle.std.proofs.Common.{map, inl, refl}
use Rattle.std.proofs.lemmas.Result.{IfOk-from_err}
use Rattle.dpl_spec_elements.specs.Motions.{image}
use Rattle.dpl_walk.proofs.KeptLaws.{added-loop}
use Rattle.dpl_walk.proofs.gathered.keep_loop.Goals as goal

pub returns-then-are_in_range : goal.returns-then-are_in_range
returns-then-are_in_range c =
    let images = rw c.items.ensures at c.in_ok-points.ensures in
    inl (
      rw (← images) (rw c.as_slice.ensures.value at (c.if-are_in_range.ensures.within refl)),
      refl,
      added-loop (map (image c.args.place.now) c.args.points.now) c.args.gathered.now _ refl (rw (← images) (rw c.of.ensures at c.in_ok-push.ensures.items)),
    )

pub returns-in_err-points : goal.returns-in_err-points
returns-in_err-points c = IfOk-from_err _ _ c.from_residual.ensures.0

pub returns-in_err-push : goal.returns-in_err-push
returns-in_err-push c = IfOk-from_err _ _ c.from_residual-in_err-push.ensures.0
