use Rattle.std.proofs.Common.{◌∙◌, sym}
use Rattle.std.proofs.lemmas.Result.{IfOk-from_err}
use Rattle.std.specs.Option.{option_copied}
use Rattle.dpl_answer.specs.Anchors.{marks_in}
use Rattle.dpl_answer.proofs.Planned.{conflicts_completed}
use Rattle.dpl_answer.proofs.answer.answer_of.Goals as goal

pub paint-requires-clause-keys : goal.paint-requires-clause-keys
paint-requires-clause-keys g c = λ key. c.requires.keys c.in_ok-cut.cut.pieces key c.in_ok-cut.ensures.pieces

pub paint-requires-clause-sums : goal.paint-requires-clause-sums
paint-requires-clause-sums g c =
    let are = conflicts_completed (marks_in (option_copied c.args.marks)) c.args.spacing c.args.cut.pieces c.in_ok-cut.cut.pieces c.args.conflicts.now
    c.in_ok-cut.ensures.pieces c.requires.conflicts in
    (rw c.in-Even.is at are).0

pub paint-requires-clause-even : goal.paint-requires-clause-even
paint-requires-clause-even g c =
    let are = conflicts_completed (marks_in (option_copied c.args.marks)) c.args.spacing c.args.cut.pieces c.in_ok-cut.cut.pieces c.args.conflicts.now
    c.in_ok-cut.ensures.pieces c.requires.conflicts in
    (rw c.in-Even.is at are).1

pub returns-in_ok-painted-in-Even-clause-flat : goal.returns-in_ok-painted-in-Even-clause-flat
returns-in_ok-painted-in-Even-clause-flat g c = (
  c.in_ok-cut.cut.pieces,
  c.in_ok-cut.ensures.pieces,
  λ features many. c.in_ok-painted-in-Even.ensures.painted features (many ∙ sym c.in_ok-cut.ensures.features),
)

pub clash-requires-clause-keys : goal.clash-requires-clause-keys
clash-requires-clause-keys g c = λ key. c.requires.keys c.in_ok-cut.cut.pieces key c.in_ok-cut.ensures.pieces

pub returns-in_ok-clash-in-Odd-clause-flat : goal.returns-in_ok-clash-in-Odd-clause-flat
returns-in_ok-clash-in-Odd-clause-flat g c = (
  c.in_ok-cut.cut.pieces,
  c.in_ok-cut.ensures.pieces,
  λ features many. c.in_ok-clash-in-Odd.ensures.clash features (many ∙ sym c.in_ok-cut.ensures.features),
)

pub returns-in_err-cut-clause-flat : goal.returns-in_err-cut-clause-flat
returns-in_err-cut-clause-flat g c = IfOk-from_err _ _ c.from_residual.ensures.0

pub returns-in_err-cut-clause-within : goal.returns-in_err-cut-clause-within
returns-in_err-cut-clause-within g c = IfOk-from_err _ _ c.from_residual.ensures.0

pub returns-in_err-cut-clause-fits : goal.returns-in_err-cut-clause-fits
returns-in_err-cut-clause-fits g c = λ some. IfOk-from_err _ _ c.from_residual.ensures.0

pub returns-in_err-painted-in-Even-clause-flat : goal.returns-in_err-painted-in-Even-clause-flat
returns-in_err-painted-in-Even-clause-flat g c = IfOk-from_err _ _ c.from_residual-in_err-painted-in-Even.ensures.0

pub returns-in_err-painted-in-Even-clause-within : goal.returns-in_err-painted-in-Even-clause-within
returns-in_err-painted-in-Even-clause-within g c = IfOk-from_err _ _ c.from_residual-in_err-painted-in-Even.ensures.0

pub returns-in_err-painted-in-Even-clause-fits : goal.returns-in_err-painted-in-Even-clause-fits
returns-in_err-painted-in-Even-clause-fits g c = λ some. IfOk-from_err _ _ c.from_residual-in_err-painted-in-Even.ensures.0

pub returns-in_err-clash-in-Odd-clause-flat : goal.returns-in_err-clash-in-Odd-clause-flat
returns-in_err-clash-in-Odd-clause-flat g c = IfOk-from_err _ _ c.from_residual-in_err-clash-in-Odd.ensures.0

pub returns-in_err-clash-in-Odd-clause-within : goal.returns-in_err-clash-in-Odd-clause-within
returns-in_err-clash-in-Odd-clause-within g c = IfOk-from_err _ _ c.from_residual-in_err-clash-in-Odd.ensures.0

pub returns-in_err-clash-in-Odd-clause-fits : goal.returns-in_err-clash-in-Odd-clause-fits
returns-in_err-clash-in-Odd-clause-fits g c = λ some. IfOk-from_err _ _ c.from_residual-in_err-clash-in-Odd.ensures.0
