use Rattle.std.proofs.Common.{ℕ, List, [], subst, sym}
use Rattle.std.proofs.lemmas.Result.{IfOk-from_err}
use Rattle.std.specs.Prelude.{Option, option_map}
use Rattle.dpl_spec_split.specs.Graphs.{AreEdges}
use Rattle.dpl_spec_split.specs.Marks.{graph}
use Rattle.dpl_piece.specs.Cutting.{cut_pieces}
use Rattle.dpl_piece.specs.View.{cut_view}
use Rattle.dpl_answer.specs.Anchors.{AreMarkEdges}
use Rattle.dpl_answer.proofs.Anchoring.{graph-listed}
use Rattle.dpl_answer.proofs.Planned.{edges_below, odd_listed, stars_below}
use Rattle.dpl_answer.proofs.conflicts.conflicts_by.Goals as goal

pub returns-in-Stars : goal.returns-in-Stars
returns-in-Stars c = λ marks fixed sums.
    let plan = c.args.job.now.plan in
    let cut = cut_view [] (cut_pieces plan.parts plan.owners [] [] []) in
    (sums, rw c.in-Stars.is (stars_below marks plan.spacing cut c.in-Stars.field-0 (rw c.in-Stars.is at sums)))

pub returns-in_ok-edges-in-Odd-2 : goal.returns-in_ok-edges-in-Odd-2
returns-in_ok-edges-in-Odd-2 c = λ marks fixed sums.
    let plan = c.args.job.now.plan in
    let pieces = c.in_ok-edges-in-Odd.edges.items in
    let edges = c.in_ok-edges-in-Odd-2.edges.items in
    let are = rw c.plan.ensures at c.in_ok-edges-in-Odd.ensures.edges in
    let with_marked : AreMarkEdges marks plan.parts (option_map (λ v. v.items) c.marked.result.now) =
    subst (λ (o : Option (List (ℕ × ℕ))). AreMarkEdges marks plan.parts o) (sym c.marked.ensures) fixed in
    let all = graph-listed marks plan.spacing plan.parts plan.owners _ pieces with_marked are in
    let cut = cut_view [] (cut_pieces plan.parts plan.owners [] [] []) in
    let here : AreEdges (graph marks plan.spacing plan.parts plan.owners) edges = rw c.in_ok-edges-in-Odd-2.ensures all in
    (here, edges_below marks plan.spacing cut edges here, odd_listed marks plan.spacing cut edges (rw c.in-Odd.is at sums) here)

pub returns-in_err-edges-in-Odd : goal.returns-in_err-edges-in-Odd
returns-in_err-edges-in-Odd c = λ marks are sums. IfOk-from_err _ _ c.from_residual.ensures.0

pub returns-in_err-edges-in-Odd-2 : goal.returns-in_err-edges-in-Odd-2
returns-in_err-edges-in-Odd-2 c = λ marks are sums. IfOk-from_err _ _ c.from_residual-in_err-edges-in-Odd-2.ensures.0
