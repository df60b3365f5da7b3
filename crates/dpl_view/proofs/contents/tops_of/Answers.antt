use Rattle.std.proofs.Common.{}
use Rattle.std.proofs.lemmas.Result.{IfOk-from_err}
use Rattle.std.proofs.lemmas.List.Elements.{Contains-get_or}
use Rattle.dpl_view.proofs.contents.tops_of.Goals as goal

pub frame-requires : goal.frame-requires
frame-requires c = ((c.in_ok-numbers.ensures.exactly _).0
    (rw (← c.deref-number-items.ensures.value) (Contains-get_or c.deref-number-items.result.now c.loop-number.number-index 0 c.loop-number-test.true))).known

pub returns-in_err-numbers : goal.returns-in_err-numbers
returns-in_err-numbers c = IfOk-from_err _ _ c.from_residual.ensures.0

pub returns-in_err-name : goal.returns-in_err-name
returns-in_err-name c = IfOk-from_err _ _ c.from_residual-in_err-name.ensures.0

pub returns-in_err-push : goal.returns-in_err-push
returns-in_err-push c = IfOk-from_err _ _ c.from_residual-in_err-push.ensures.0
