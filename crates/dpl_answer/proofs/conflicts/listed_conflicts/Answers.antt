use Rattle.std.proofs.Common.{[]}
use Rattle.std.specs.Option.{option_copied}
use Rattle.std.proofs.lemmas.Result.{IfOk-weaker, IfOk-from_err}
use Rattle.dpl_piece.specs.Cutting.{cut_pieces}
use Rattle.dpl_piece.specs.View.{cut_view}
use Rattle.dpl_answer.specs.Anchors.{marks_in}
use Rattle.dpl_answer.proofs.Anchoring.{listed-pairs}
use Rattle.dpl_answer.proofs.Planned.{among_all}
use Rattle.dpl_answer.proofs.conflicts.listed_conflicts.Goals as goal

pub conflicts_among-requires : goal.conflicts_among-requires
conflicts_among-requires g c = listed-pairs _ c.in_ok-edges.edges.items c.in_ok-edges.ensures

pub returns : goal.returns
returns g c =
    let bare = c.args.pieces.now in
    let marks = marks_in (option_copied c.args.marks) in
    let cut = cut_view [] (cut_pieces bare.parts bare.owners [] [] []) in
    IfOk-weaker c.conflicts_among.result _ _ (λ cs among. among_all marks c.args.spacing cut c.in_ok-edges.edges.items cs c.in_ok-edges.ensures among) c.conflicts_among.ensures

pub returns-in_err-edges : goal.returns-in_err-edges
returns-in_err-edges g c = IfOk-from_err _ _ c.from_residual.ensures.0
