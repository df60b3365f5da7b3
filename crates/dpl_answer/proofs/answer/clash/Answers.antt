use Rattle.std.proofs.Common.{[], List, ℕ, Option, Global, subst, sym}
use Rattle.std.proofs.lemmas.Result.{IfOk-from_err}
use Rattle.std.specs.Option.{option_copied}
use Rattle.std.specs.Prelude.{IfSome, Vec}
use Rattle.dpl_spec_split.specs.Graphs.{IsOddCycle, graph_of}
use Rattle.dpl_spec_split.specs.Cycle.{IsReported}
use Rattle.dpl_spec_split.specs.Marks.{graph}
use Rattle.dpl_answer.specs.Anchors.{marks_in}
use Rattle.dpl_piece.specs.View.{cut_view}
use Rattle.dpl_answer.proofs.Deciding.{cycle_same, same_edges}
use Rattle.dpl_answer.proofs.SameGraphs.{reported_same}
use Rattle.dpl_answer.proofs.answer.clash.Goals as goal

pub clash_by-requires-clause-reported : goal.clash_by-requires-clause-reported
clash_by-requires-clause-reported c =
    let pieces = c.args.cut.now.pieces in
    let marks = marks_in (option_copied c.args.marks) in
    let reported = subst (λ (o : Option (Vec ℕ Global)). IfSome o (λ cycle. IsReported (graph_of c.args.edges.now) cycle.items)) c.in-Some.is c.in_ok-cycle.ensures.reported in
    let here = subst (λ (l : List ℕ). IsReported (graph_of c.args.edges.now) l) (sym c.deref.ensures.value) reported in
    reported_same (graph_of c.args.edges.now) (graph marks c.args.spacing pieces.parts pieces.owners)
    (same_edges marks c.args.spacing (cut_view [] pieces) c.args.edges.now c.requires.edges) c.deref.result.now here

pub clash_by-requires-clause-odd : goal.clash_by-requires-clause-odd
clash_by-requires-clause-odd c =
    let odd = subst (λ (o : Option (Vec ℕ Global)). IfSome o (λ cycle. IsOddCycle (graph_of c.args.edges.now) cycle.items)) c.in-Some.is c.in_ok-cycle.ensures.odd in
    let here = subst (λ (l : List ℕ). IsOddCycle (graph_of c.args.edges.now) l) (sym c.deref.ensures.value) odd in
    cycle_same (marks_in (option_copied c.args.marks)) c.args.spacing (cut_view [] c.args.cut.now.pieces) c.args.edges.now c.deref.result.now c.requires.edges here

pub returns-in_err-count-clause-clash : goal.returns-in_err-count-clause-clash
returns-in_err-count-clause-clash c = IfOk-from_err _ _ c.from_residual.ensures.0

pub returns-in_err-count-clause-fits : goal.returns-in_err-count-clause-fits
returns-in_err-count-clause-fits c = λ some. IfOk-from_err _ _ c.from_residual.ensures.0

pub returns-in_err-cycle-clause-clash : goal.returns-in_err-cycle-clause-clash
returns-in_err-cycle-clause-clash c = IfOk-from_err _ _ c.from_residual-in_err-cycle.ensures.0

pub returns-in_err-cycle-clause-fits : goal.returns-in_err-cycle-clause-fits
returns-in_err-cycle-clause-fits c = λ some. IfOk-from_err _ _ c.from_residual-in_err-cycle.ensures.0
