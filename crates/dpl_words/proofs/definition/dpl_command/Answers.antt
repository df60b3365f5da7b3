use Rattle.std.proofs.Common.{refl}
use Rattle.std.proofs.lemmas.Result.{IfOk-from_err}
use Rattle.dpl_words.proofs.Building.{one_more, with_all}
use Rattle.dpl_words.proofs.definition.dpl_command.Goals as goal

pub loop-level-init : goal.loop-level-init
loop-level-init c = record { all = refl; first = c.top_command-command.ensures }

pub loop-level-preserved : goal.loop-level-preserved
loop-level-preserved c = one_more _ c.loop-level.invariant c.loop-level-test.true c.in_ok-command.ensures

pub returns-in_err-command : goal.returns-in_err-command
returns-in_err-command c = IfOk-from_err _ _ c.from_residual.ensures.0

pub returns : goal.returns
returns c = with_all c.loop-level.invariant c.loop-level-test.false
