use Rattle.std.proofs.Common.{◌∙◌, List, Bool, length, ap, sym, subst}
use Rattle.std.specs.Option.{option_copied}
use Rattle.std.proofs.lemmas.Result.{IfOk-from_err}
use Rattle.dpl_spec_verdict.specs.Gains.{AreGainsOf}
use Rattle.dpl_cert.specs.declared.cert.Gain.{Gain}
use Rattle.dpl_piece.specs.View.{cut_view}
use Rattle.dpl_answer.specs.Anchors.{marks_in}
use Rattle.dpl_answer.proofs.Reducing.{gains-asked, gains-unasked}
use Rattle.dpl_answer.proofs.gains.gains_by.Goals as goal

pub gains_among-requires-clause-each : goal.gains_among-requires-clause-each
gains_among-requires-clause-each c = ap length (c.deref.ensures.value ∙ c.in_ok-letters.ensures) ∙ c.requires.each

pub returns-then-not-fewer : goal.returns-then-not-fewer
returns-then-not-fewer c = λ features. gains-unasked c.args.fewer (marks_in (option_copied c.args.marks)) c.args.spacing (cut_view features c.args.pieces.now) c.args.colours.now c.if-not-fewer.true

pub returns : goal.returns
returns c = λ features.
    let marks = marks_in (option_copied c.args.marks) in
    let cut = cut_view features c.args.pieces.now in
    let found = c.in_ok-gains.ensures features in
    let lettered = subst (λ (ls : List Bool). AreGainsOf marks c.args.spacing cut ls c.in_ok-gains.gains.items) (c.deref.ensures.value ∙ c.in_ok-letters.ensures) found in
    gains-asked c.args.fewer marks c.args.spacing cut c.args.colours.now _ c.if-not-fewer.false
    (subst (λ (gs : List Gain). AreGainsOf marks c.args.spacing cut c.args.colours.now gs) (sym c.of.ensures) lettered)

pub returns-in_err-letters : goal.returns-in_err-letters
returns-in_err-letters c = IfOk-from_err _ _ c.from_residual.ensures.0

pub returns-in_err-gains : goal.returns-in_err-gains
returns-in_err-gains c = IfOk-from_err _ _ c.from_residual-in_err-gains.ensures.0
