use Rattle.std.proofs.lemmas.Result.{IfOk-from_err}
use Rattle.std.specs.Prelude.{Some, length}
use Rattle.dpl_answer.specs.Anchors.{marks_of}
use Rattle.dpl_answer.proofs.Told.{known-vertex, linked, vertex-known}
use Rattle.dpl_answer.proofs.cycle.vertex_cycle_lines.Goals as goal

pub vertex_lines-requires-clause-known : goal.vertex_lines-requires-clause-known
vertex_lines-requires-clause-known c = λ k h.
    let pieces = c.args.pieces.now in
    known-vertex (length pieces.parts) k (vertex-known (Some (marks_of c.args.marks.now)) c.args.spacing pieces.parts pieces.owners c.args.cycle.now k c.requires.odd h)

pub link_lines-requires-clause-linked : goal.link_lines-requires-clause-linked
link_lines-requires-clause-linked c = λ k h.
    let pieces = c.args.pieces.now in
    linked (marks_of c.args.marks.now) c.args.spacing pieces.parts pieces.owners _ _ (c.requires.odd.around k h)

pub returns-in_err-places : goal.returns-in_err-places
returns-in_err-places c = IfOk-from_err _ _ c.from_residual.ensures.0

pub returns-in_err-near : goal.returns-in_err-near
returns-in_err-near c = IfOk-from_err _ _ c.from_residual-in_err-near.ensures.0
