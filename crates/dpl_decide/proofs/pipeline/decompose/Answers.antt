use Rattle.std.proofs.Common.{Global, List, Option, sym, subst, ℕ}
use Rattle.std.specs.Prelude.{IfSome, Vec}
use Rattle.std.proofs.lemmas.Result.{IfOk-from_err, IfOk-weaker}
use Rattle.std.specs.Option.{option_copied}
use Rattle.dpl_spec_split.specs.Cycle.{IsReported}
use Rattle.dpl_spec_split.specs.Graphs.{IsOddCycle}
use Rattle.dpl_spec_split.specs.Marks.{graph}
use Rattle.dpl_piece.specs.View.{cut_view}
use Rattle.dpl_answer.specs.Anchors.{marks_in}
use Rattle.dpl_decide.proofs.pipeline.decompose.Goals as goal

pub answer_of_cycle-requires-clause-reported : goal.answer_of_cycle-requires-clause-reported
answer_of_cycle-requires-clause-reported g c =
    let marks = marks_in (option_copied c.args.marks) in
    let bare = c.in_ok-cut.cut.pieces in
    let spacing = c.args.recipe.now.spacing in
    let reported = subst (λ (o : Option (Vec ℕ Global)). IfSome o (λ cycle. IsReported (graph marks spacing bare.parts bare.owners) cycle.items)) c.in-Some.is c.in_ok-crowded.ensures.reported in
    subst (λ (l : List ℕ). IsReported (graph marks spacing bare.parts bare.owners) l) (sym c.deref.ensures.value) reported

pub answer_of_cycle-requires-clause-odd : goal.answer_of_cycle-requires-clause-odd
answer_of_cycle-requires-clause-odd g c =
    let marks = marks_in (option_copied c.args.marks) in
    let bare = c.in_ok-cut.cut.pieces in
    let spacing = c.args.recipe.now.spacing in
    let odd = subst (λ (o : Option (Vec ℕ Global)). IfSome o (λ cycle. IsOddCycle (graph marks spacing bare.parts bare.owners) cycle.items)) c.in-Some.is c.in_ok-crowded.ensures.odd in
    subst (λ (l : List ℕ). IsOddCycle (graph marks spacing bare.parts bare.owners) l) (sym c.deref.ensures.value) odd

pub returns-in-Some-clause-flat : goal.returns-in-Some-clause-flat
returns-in-Some-clause-flat g c =
    let (features, many, is) = c.in_ok-cut.ensures.cut (marks_in (option_copied c.args.marks)) c.in_ok-marked.ensures in
    IfOk-weaker c.answer_of_cycle.result _ _
    (λ d told. let (pieces, completed, flat) = told c.args.recipe.now.fewer in (cut_view features pieces, is pieces completed, flat features many)) c.answer_of_cycle.ensures.flat

pub returns-clause-flat : goal.returns-clause-flat
returns-clause-flat g c =
    let (features, many, is) = c.in_ok-cut.ensures.cut (marks_in (option_copied c.args.marks)) c.in_ok-marked.ensures in
    IfOk-weaker c.answer_of.result _ _
    (λ d (pieces, completed, flat). (cut_view features pieces, is pieces completed, flat features many)) c.answer_of.ensures.flat

pub returns-in_err-marked-clause-flat : goal.returns-in_err-marked-clause-flat
returns-in_err-marked-clause-flat g c = IfOk-from_err _ _ c.from_residual.ensures.0

pub returns-in_err-marked-clause-fits : goal.returns-in_err-marked-clause-fits
returns-in_err-marked-clause-fits g c = IfOk-from_err _ _ c.from_residual.ensures.0

pub returns-in_err-cut-clause-flat : goal.returns-in_err-cut-clause-flat
returns-in_err-cut-clause-flat g c = IfOk-from_err _ _ c.from_residual-in_err-cut.ensures.0

pub returns-in_err-cut-clause-fits : goal.returns-in_err-cut-clause-fits
returns-in_err-cut-clause-fits g c = IfOk-from_err _ _ c.from_residual-in_err-cut.ensures.0

pub returns-in_err-crowded-clause-flat : goal.returns-in_err-crowded-clause-flat
returns-in_err-crowded-clause-flat g c = IfOk-from_err _ _ c.from_residual-in_err-crowded.ensures.0

pub returns-in_err-crowded-clause-fits : goal.returns-in_err-crowded-clause-fits
returns-in_err-crowded-clause-fits g c = IfOk-from_err _ _ c.from_residual-in_err-crowded.ensures.0

pub returns-in_err-conflicts-clause-flat : goal.returns-in_err-conflicts-clause-flat
returns-in_err-conflicts-clause-flat g c = IfOk-from_err _ _ c.from_residual-in_err-conflicts.ensures.0

pub returns-in_err-conflicts-clause-fits : goal.returns-in_err-conflicts-clause-fits
returns-in_err-conflicts-clause-fits g c = IfOk-from_err _ _ c.from_residual-in_err-conflicts.ensures.0
