use Rattle.std.proofs.Common.{List, subst, sym}
use Rattle.std.specs.Option.{option_copied}
use Rattle.std.proofs.lemmas.Result.{IfOk-weaker, IfOk-from_err}
use Rattle.dpl_spec_split.specs.declared.Rect.{Rect}
use Rattle.dpl_tile.proofs.TileLaws.{doubled-some}
use Rattle.dpl_answer.specs.Anchors.{AreMarkEdges, marks_in}
use Rattle.dpl_answer.proofs.Planned.{conflicts_planned, tiled}
use Rattle.dpl_answer.proofs.conflicts.conflicts_of.Goals as goal

pub joined_conflicts-requires-clause-tiled : goal.joined_conflicts-requires-clause-tiled
joined_conflicts-requires-clause-tiled g c κs within =
    let plan = c.in_ok-job.ensures.plan in
    let some = doubled-some c.args.sharing.tile plan.0 c.requires.tile.0 plan.1 in
    let bare = c.args.cut.now.pieces in
    tiled bare.parts bare.owners c.args.spacing plan.0 c.in_ok-job.job.plan some plan.2

pub returns : goal.returns
returns g c =
    let bare = c.args.cut.now.pieces in
    let marks = marks_in (option_copied c.args.marks) in
    let plan = c.in_ok-job.ensures.plan in
    let job = c.in_ok-job.job in
    let fixed : AreMarkEdges marks job.plan.parts job.marked = subst (λ (ps : List (List Rect)). AreMarkEdges marks ps job.marked) (sym plan.2.of_parts) c.in_ok-job.ensures.marked in
    IfOk-weaker c.conflicts_by.result _ _ (λ conflicts are. conflicts_planned bare.parts bare.owners c.args.spacing plan.0 job.plan marks conflicts plan.2 are)
    (c.conflicts_by.ensures marks fixed (c.in_ok-joined.ensures marks fixed))

pub returns-in_err-job : goal.returns-in_err-job
returns-in_err-job g c = IfOk-from_err _ _ c.from_residual.ensures.0

pub returns-in_err-joined : goal.returns-in_err-joined
returns-in_err-joined g c = IfOk-from_err _ _ c.from_residual-in_err-joined.ensures.0
