use Rattle.std.proofs.Common.{[], subst, sym}
use Rattle.std.proofs.lemmas.List.{map_more}
use Rattle.std.proofs.lemmas.Result.{IfOk-from_err}
use Rattle.dpl_words.specs.Definition.{rule_for, shape_with}
use Rattle.dpl_words.proofs.Building.{Is, added}
use Rattle.dpl_words.proofs.definition.Level.command.Goals as goal

pub loop-argument-preserved : goal.loop-argument-preserved
loop-argument-preserved c =
    let one_more = added _ _ _ _ _ c.in_ok-command.ensures c.arg.ensures.local c.arg.ensures.defined c.loop-argument.invariant in
    subst (λ rules. Is c.in_ok-command.command (record { top = shape_with c.args.self.name.now rules; subs = [] }))
    (sym (map_more rule_for c.args.self.arguments.now c.loop-argument.argument-index _ c.loop-argument-test.true)) one_more

pub returns-in_err-command-clause-shape : goal.returns-in_err-command-clause-shape
returns-in_err-command-clause-shape c = IfOk-from_err _ _ c.from_residual.ensures.0

pub returns-in_err-command-clause-local : goal.returns-in_err-command-clause-local
returns-in_err-command-clause-local c = IfOk-from_err _ _ c.from_residual.ensures.0
