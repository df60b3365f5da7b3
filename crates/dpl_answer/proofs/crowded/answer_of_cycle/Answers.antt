use Rattle.std.proofs.Common.{◌∙◌, List, ℕ, subst, sym}
use Rattle.std.proofs.lemmas.Result.{IfOk-from_err}
use Rattle.std.specs.Option.{option_copied}
use Rattle.dpl_spec_split.specs.declared.Rect.{Rect}
use Rattle.dpl_spec_split.specs.Cycle.{IsReported}
use Rattle.dpl_spec_split.specs.Graphs.{IsOddCycle}
use Rattle.dpl_spec_split.specs.Marks.{graph}
use Rattle.dpl_answer.specs.Anchors.{marks_in}
use Rattle.dpl_answer.proofs.crowded.answer_of_cycle.Goals as goal

pub clash_by-requires-clause-keys : goal.clash_by-requires-clause-keys
clash_by-requires-clause-keys c = λ key. c.requires.keys c.in_ok-cut.cut.pieces key c.in_ok-cut.ensures.pieces

pub clash_by-requires-clause-reported : goal.clash_by-requires-clause-reported
clash_by-requires-clause-reported c =
    let done = c.in_ok-cut.ensures.pieces in
    let marks = marks_in (option_copied c.args.marks) in
    subst (λ (os : List ℕ). IsReported (graph marks c.args.spacing c.in_ok-cut.cut.pieces.parts os) c.args.cycle.now) (sym done.owners)
    (subst (λ (ps : List (List Rect)). IsReported (graph marks c.args.spacing ps c.args.cut.pieces.owners) c.args.cycle.now) (sym done.parts) c.requires.reported)

pub clash_by-requires-clause-odd : goal.clash_by-requires-clause-odd
clash_by-requires-clause-odd c =
    let done = c.in_ok-cut.ensures.pieces in
    let marks = marks_in (option_copied c.args.marks) in
    subst (λ (os : List ℕ). IsOddCycle (graph marks c.args.spacing c.in_ok-cut.cut.pieces.parts os) c.args.cycle.now) (sym done.owners)
    (subst (λ (ps : List (List Rect)). IsOddCycle (graph marks c.args.spacing ps c.args.cut.pieces.owners) c.args.cycle.now) (sym done.parts) c.requires.odd)

pub returns-clause-flat : goal.returns-clause-flat
returns-clause-flat c = λ fewer. (
  c.in_ok-cut.cut.pieces,
  c.in_ok-cut.ensures.pieces,
  λ features many. c.in_ok-clash.ensures.clash features (many ∙ sym c.in_ok-cut.ensures.features),
)

pub returns-in_err-cut-clause-flat : goal.returns-in_err-cut-clause-flat
returns-in_err-cut-clause-flat c = IfOk-from_err _ _ c.from_residual.ensures.0

pub returns-in_err-cut-clause-within : goal.returns-in_err-cut-clause-within
returns-in_err-cut-clause-within c = IfOk-from_err _ _ c.from_residual.ensures.0

pub returns-in_err-cut-clause-fits : goal.returns-in_err-cut-clause-fits
returns-in_err-cut-clause-fits c = λ some. IfOk-from_err _ _ c.from_residual.ensures.0

pub returns-in_err-clash-clause-flat : goal.returns-in_err-clash-clause-flat
returns-in_err-clash-clause-flat c = IfOk-from_err _ _ c.from_residual-in_err-clash.ensures.0

pub returns-in_err-clash-clause-within : goal.returns-in_err-clash-clause-within
returns-in_err-clash-clause-within c = IfOk-from_err _ _ c.from_residual-in_err-clash.ensures.0

pub returns-in_err-clash-clause-fits : goal.returns-in_err-clash-clause-fits
returns-in_err-clash-clause-fits c = λ some. IfOk-from_err _ _ c.from_residual-in_err-clash.ensures.0
