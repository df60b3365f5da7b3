use Rattle.std.proofs.lemmas.Result.{IfOk-from_err}
use Rattle.dpl_stars.proofs.Forks.{reported-odd}
use Rattle.dpl_crowd.specs.Crowds.{graph_in}
use Rattle.dpl_crowd.proofs.NearLaws.{crowd-undirected}
use Rattle.dpl_crowd.proofs.near.Crowd.first_cycle.Goals as goal

pub returns-in-Some-clause-odd : goal.returns-in-Some-clause-odd
returns-in-Some-clause-odd c = reported-odd (graph_in c.args.self.now) (crowd-undirected c.args.self.now) _ c.in_ok-cycle.ensures

pub returns-in_err-walk-clause-reported : goal.returns-in_err-walk-clause-reported
returns-in_err-walk-clause-reported c = IfOk-from_err _ _ c.from_residual.ensures.0

pub returns-in_err-walk-clause-odd : goal.returns-in_err-walk-clause-odd
returns-in_err-walk-clause-odd c = IfOk-from_err _ _ c.from_residual.ensures.0

pub returns-in_err-edge-clause-reported : goal.returns-in_err-edge-clause-reported
returns-in_err-edge-clause-reported c = IfOk-from_err _ _ c.from_residual-in_err-edge.ensures.0

pub returns-in_err-edge-clause-odd : goal.returns-in_err-edge-clause-odd
returns-in_err-edge-clause-odd c = IfOk-from_err _ _ c.from_residual-in_err-edge.ensures.0

pub returns-in_err-cycle-clause-reported : goal.returns-in_err-cycle-clause-reported
returns-in_err-cycle-clause-reported c = IfOk-from_err _ _ c.from_residual-in_err-cycle.ensures.0

pub returns-in_err-cycle-clause-odd : goal.returns-in_err-cycle-clause-odd
returns-in_err-cycle-clause-odd c = IfOk-from_err _ _ c.from_residual-in_err-cycle.ensures.0

pub returns-in_err-advance-clause-reported : goal.returns-in_err-advance-clause-reported
returns-in_err-advance-clause-reported c = IfOk-from_err _ _ c.from_residual-in_err-advance.ensures.0

pub returns-in_err-advance-clause-odd : goal.returns-in_err-advance-clause-odd
returns-in_err-advance-clause-odd c = IfOk-from_err _ _ c.from_residual-in_err-advance.ensures.0
