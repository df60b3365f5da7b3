use Rattle.std.proofs.Common.{◌≡◌, true, false, inl, inr, refl}
use Rattle.std.proofs.lemmas.Result.{IfOk-from_err}
use Rattle.dpl_corners.proofs.BarLaws.{opposite-in}
use Rattle.dpl_walk.proofs.KeptLaws.{kept-bar, far-bar}
use Rattle.dpl_walk.proofs.gathered.keep_bar.Goals as goal
use Rattle.dpl_walk.proofs.gathered.keep_bar.Goals.{else-is_in_range-via-then-is_in_range+else-is_in_range-2, else-is_in_range-via-else-is_in_range}

pub apply-opposite-requires-clause-point : goal.apply-opposite-requires-clause-point
apply-opposite-requires-clause-point c = c.requires.points c.args.bar.now.opposite (opposite-in c.args.bar.now)

pub returns-then-is_in_range-2 : goal.returns-then-is_in_range-2
returns-then-is_in_range-2 c = kept-bar c.args.place.now c.args.bar.now c.apply-corner.result c.apply-opposite.result c.spanned.result
    c.args.at c.args.gathered.now _ c.apply-corner.ensures c.apply-opposite.ensures (c.if-is_in_range.ensures.0 refl)
    (c.if-is_in_range-2.ensures.0 refl) c.spanned.ensures refl c.in_ok-push.ensures.items refl

pub returns : goal.returns
returns c = far-bar c.args.place.now c.args.bar.now c.apply-corner.result c.apply-opposite.result c.args.at c.args.gathered.now _
    c.apply-corner.ensures c.apply-opposite.ensures
    (elim c.else-is_in_range.branch [
      | else-is_in_range-via-then-is_in_range+else-is_in_range-2 w ↦ inr (λ v. let e : false ≡ true = w.if-is_in_range-2.ensures.1 v in cc)
      | else-is_in_range-via-else-is_in_range w ↦ inl (λ v. let e : false ≡ true = w.if-is_in_range.ensures.1 v in cc)
    ]) c.note-gathered.ensures refl refl

pub returns-in_err-push : goal.returns-in_err-push
returns-in_err-push c = IfOk-from_err _ _ c.from_residual.ensures.0
