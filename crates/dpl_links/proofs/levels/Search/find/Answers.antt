use Rattle.std.proofs.Common.{refl}
use Rattle.std.proofs.lemmas.Result.{IfOk-from_err}
use Rattle.dpl_links.proofs.levels.Search.find.Goals as goal

pub returns-clause-parts : goal.returns-clause-parts
returns-clause-parts c = (
  record { root = c.args.vertex; vertices = c.push-2.new.self },
  refl,
  (rw c.new-vertices.ensures.items at c.in_ok-push-2.ensures.items),
  c.in_ok-push-3.ensures.items,
)

pub returns-in_err-push-clause-found : goal.returns-in_err-push-clause-found
returns-in_err-push-clause-found c = IfOk-from_err _ _ c.from_residual.ensures.0

pub returns-in_err-push-clause-numbers : goal.returns-in_err-push-clause-numbers
returns-in_err-push-clause-numbers c = IfOk-from_err _ _ c.from_residual.ensures.0

pub returns-in_err-push-clause-finds : goal.returns-in_err-push-clause-finds
returns-in_err-push-clause-finds c = IfOk-from_err _ _ c.from_residual.ensures.0

pub returns-in_err-push-clause-parts : goal.returns-in_err-push-clause-parts
returns-in_err-push-clause-parts c = IfOk-from_err _ _ c.from_residual.ensures.0

pub returns-in_err-push-clause-path : goal.returns-in_err-push-clause-path
returns-in_err-push-clause-path c = IfOk-from_err _ _ c.from_residual.ensures.0

pub returns-in_err-push-2-clause-found : goal.returns-in_err-push-2-clause-found
returns-in_err-push-2-clause-found c = IfOk-from_err _ _ c.from_residual-in_err-push-2.ensures.0

pub returns-in_err-push-2-clause-numbers : goal.returns-in_err-push-2-clause-numbers
returns-in_err-push-2-clause-numbers c = IfOk-from_err _ _ c.from_residual-in_err-push-2.ensures.0

pub returns-in_err-push-2-clause-finds : goal.returns-in_err-push-2-clause-finds
returns-in_err-push-2-clause-finds c = IfOk-from_err _ _ c.from_residual-in_err-push-2.ensures.0

pub returns-in_err-push-2-clause-parts : goal.returns-in_err-push-2-clause-parts
returns-in_err-push-2-clause-parts c = IfOk-from_err _ _ c.from_residual-in_err-push-2.ensures.0

pub returns-in_err-push-2-clause-path : goal.returns-in_err-push-2-clause-path
returns-in_err-push-2-clause-path c = IfOk-from_err _ _ c.from_residual-in_err-push-2.ensures.0

pub returns-in_err-push-3-clause-found : goal.returns-in_err-push-3-clause-found
returns-in_err-push-3-clause-found c = IfOk-from_err _ _ c.from_residual-in_err-push-3.ensures.0

pub returns-in_err-push-3-clause-numbers : goal.returns-in_err-push-3-clause-numbers
returns-in_err-push-3-clause-numbers c = IfOk-from_err _ _ c.from_residual-in_err-push-3.ensures.0

pub returns-in_err-push-3-clause-finds : goal.returns-in_err-push-3-clause-finds
returns-in_err-push-3-clause-finds c = IfOk-from_err _ _ c.from_residual-in_err-push-3.ensures.0

pub returns-in_err-push-3-clause-parts : goal.returns-in_err-push-3-clause-parts
returns-in_err-push-3-clause-parts c = IfOk-from_err _ _ c.from_residual-in_err-push-3.ensures.0

pub returns-in_err-push-3-clause-path : goal.returns-in_err-push-3-clause-path
returns-in_err-push-3-clause-path c = IfOk-from_err _ _ c.from_residual-in_err-push-3.ensures.0

pub returns-in_err-push-4-clause-found : goal.returns-in_err-push-4-clause-found
returns-in_err-push-4-clause-found c = IfOk-from_err _ _ c.from_residual-in_err-push-4.ensures.0

pub returns-in_err-push-4-clause-numbers : goal.returns-in_err-push-4-clause-numbers
returns-in_err-push-4-clause-numbers c = IfOk-from_err _ _ c.from_residual-in_err-push-4.ensures.0

pub returns-in_err-push-4-clause-finds : goal.returns-in_err-push-4-clause-finds
returns-in_err-push-4-clause-finds c = IfOk-from_err _ _ c.from_residual-in_err-push-4.ensures.0

pub returns-in_err-push-4-clause-parts : goal.returns-in_err-push-4-clause-parts
returns-in_err-push-4-clause-parts c = IfOk-from_err _ _ c.from_residual-in_err-push-4.ensures.0

pub returns-in_err-push-4-clause-path : goal.returns-in_err-push-4-clause-path
returns-in_err-push-4-clause-path c = IfOk-from_err _ _ c.from_residual-in_err-push-4.ensures.0
