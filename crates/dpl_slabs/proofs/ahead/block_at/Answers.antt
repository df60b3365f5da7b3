use Rattle.std.proofs.lemmas.Result.{IfOk-from_err}
use Rattle.dpl_slabs.proofs.StripLaws.{rise-drop, rise-take}
use Rattle.dpl_slabs.proofs.ahead.block_at.Goals as goal

pub returns-in_err-own-clause-block : goal.returns-in_err-own-clause-block
returns-in_err-own-clause-block c = IfOk-from_err _ _ c.from_residual.ensures.0

pub returns-in_err-own-clause-start : goal.returns-in_err-own-clause-start
returns-in_err-own-clause-start c = IfOk-from_err _ _ c.from_residual.ensures.0

pub returns-in_err-own-clause-some : goal.returns-in_err-own-clause-some
returns-in_err-own-clause-some c = IfOk-from_err _ _ c.from_residual.ensures.0

pub returns-in_err-own-clause-within : goal.returns-in_err-own-clause-within
returns-in_err-own-clause-within c = IfOk-from_err _ _ c.from_residual.ensures.0

pub returns-in_err-slabs-clause-block : goal.returns-in_err-slabs-clause-block
returns-in_err-slabs-clause-block c = IfOk-from_err _ _ c.from_residual-in_err-slabs.ensures.0

pub returns-in_err-slabs-clause-start : goal.returns-in_err-slabs-clause-start
returns-in_err-slabs-clause-start c = IfOk-from_err _ _ c.from_residual-in_err-slabs.ensures.0

pub returns-in_err-slabs-clause-some : goal.returns-in_err-slabs-clause-some
returns-in_err-slabs-clause-some c = IfOk-from_err _ _ c.from_residual-in_err-slabs.ensures.0

pub returns-in_err-slabs-clause-within : goal.returns-in_err-slabs-clause-within
returns-in_err-slabs-clause-within c = IfOk-from_err _ _ c.from_residual-in_err-slabs.ensures.0

pub strip_length-count-requires-clause-rise : goal.strip_length-count-requires-clause-rise
strip_length-count-requires-clause-rise c = rise-take _ _ (rise-drop c.args.start c.args.rects.now c.requires.rise)
