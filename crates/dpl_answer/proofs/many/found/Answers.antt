use Rattle.std.proofs.Common.{None, subst, sym}
use Rattle.std.proofs.lemmas.Result.{IfOk-weaker, IfOk-from_err}
use Rattle.dpl_spec_split.specs.Marks.{graph}
use Rattle.dpl_stars.specs.declared.joined.Joined.{Joined}
use Rattle.dpl_answer.specs.Conflicts.{SumsGraph}
use Rattle.dpl_answer.proofs.ManyCuts.{board_sums, unmarked_job}
use Rattle.dpl_answer.proofs.Planned.{conflicts_planned}
use Rattle.dpl_answer.proofs.many.found.Goals as goal

pub returns-in_ok-joined-in-Tiled : goal.returns-in_ok-joined-in-Tiled
returns-in_ok-joined-in-Tiled c = λ spacing cut starts.
    let is = rw c.in-Tiled.is at starts in
    let told = rw c.in-Tiled.is at c.requires in
    let job = c.in-Tiled.job in
    let bare = cut.pieces in
    let sums = subst (λ (j : Joined). SumsGraph (graph None job.plan.spacing job.plan.parts job.plan.owners) j) (sym c.in_ok-joined-in-Tiled.ensures)
    (board_sums spacing cut job c.args.board.now c.joined.result.now is told c.joined.ensures) in
    IfOk-weaker c.conflicts_by.result _ _ (λ conflicts are. conflicts_planned bare.parts bare.owners spacing is.0.0 job.plan None conflicts is.0.2 are)
    (c.conflicts_by.ensures None (unmarked_job spacing cut job is) sums)

pub returns-in_err-joined-in-Tiled : goal.returns-in_err-joined-in-Tiled
returns-in_err-joined-in-Tiled c = λ spacing cut is. IfOk-from_err _ _ c.from_residual.ensures.0
