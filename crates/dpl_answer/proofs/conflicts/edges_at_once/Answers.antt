use Rattle.std.proofs.Common.{List, subst}
use Rattle.std.specs.Option.{option_copied}
use Rattle.std.specs.Prelude.{option_map}
use Rattle.std.proofs.lemmas.Result.{IfOk-weaker, IfOk-from_err}
use Rattle.dpl_spec_split.specs.declared.Rect.{Rect}
use Rattle.dpl_answer.specs.Anchors.{AreMarkEdges, marks_in}
use Rattle.dpl_answer.proofs.Anchoring.{graph-listed}
use Rattle.dpl_answer.proofs.conflicts.edges_at_once.Goals as goal

pub returns : goal.returns
returns g c =
    let bare = c.args.pieces.now in
    let marks = marks_in (option_copied c.args.marks) in
    let edges = rw (c.parts.ensures, c.owner.ensures.value) at c.in_ok-edges.ensures.edges in
    let fixed = subst (λ (ps : List (List Rect)). AreMarkEdges marks ps (option_map (λ v. v.items) c.in_ok-marked.marked)) c.parts-2.ensures c.in_ok-marked.ensures.edges in
    IfOk-weaker c.joined_with.result _ _ (λ v is. rw is (graph-listed marks c.args.spacing bare.parts bare.owners _ c.in_ok-edges.edges.items fixed edges)) c.joined_with.ensures

pub returns-in_err-edges : goal.returns-in_err-edges
returns-in_err-edges g c = IfOk-from_err _ _ c.from_residual.ensures.0

pub returns-in_err-marked : goal.returns-in_err-marked
returns-in_err-marked g c = IfOk-from_err _ _ c.from_residual-in_err-marked.ensures.0
