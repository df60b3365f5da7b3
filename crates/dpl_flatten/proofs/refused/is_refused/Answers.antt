use Rattle.std.proofs.lemmas.Result.{IfOk-from_err}
use Rattle.dpl_syntax.specs.Elements.{element_seen}
use Rattle.dpl_flatten.proofs.DrawnLaws.{refused_iff}
use Rattle.dpl_flatten.proofs.refused.is_refused.Goals as goal

pub returns-in_err-fault_of : goal.returns-in_err-fault_of
returns-in_err-fault_of c = IfOk-from_err _ _ c.from_residual.ensures.0

pub returns : goal.returns
returns c = refused_iff c.args.chosen (element_seen c.args.element.now) _ _ c.is_some.ensures c.in_ok-fault_of.ensures
