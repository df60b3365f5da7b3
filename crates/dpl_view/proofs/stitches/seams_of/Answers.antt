use Rattle.std.proofs.Common.{refl, rules}
use Rattle.std.proofs.lemmas.Result.{IfOk-from_err}
use Rattle.dpl_piece.specs.View.{cut_view}
use Rattle.dpl_view.proofs.SeamLaws.{no_seams, some_seams}
use Rattle.dpl_view.proofs.stitches.seams_of.Goals as goal

pub returns-in-Cycle : goal.returns-in-Cycle
returns-in-Cycle g c =
    let (p, completes, all) = rw c.in-Cycle.is at c.in_ok-answer.ensures.flat in
    (p, completes, λ features many. no_seams c.args.spacing c.args.overlap (cut_view features p) _ _ (all features many) (search rules))

pub returns-in-Masks : goal.returns-in-Masks
returns-in-Masks g c =
    let (p, completes, all) = rw c.in-Masks.is at c.in_ok-answer.ensures.flat in
    (p, completes, λ features many. some_seams c.args.spacing c.args.overlap (cut_view features p) _ _ (all features many) refl)

pub returns-in_err-answer : goal.returns-in_err-answer
returns-in_err-answer g c = IfOk-from_err _ _ c.from_residual.ensures.0
