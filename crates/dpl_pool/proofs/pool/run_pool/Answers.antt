use Rattle.std.proofs.Common.{◌≡◌, ◌++◌, ◌∷◌, [], rules}
use Rattle.std.proofs.lemmas.Result.{IfOk-from_err}
use Rattle.dpl_pool.proofs.Seating.{only_one}
use Rattle.dpl_pool.proofs.pool.run_pool.Goals as goal

pub returns-clause-once : goal.returns-clause-once
returns-clause-once g c =
    let e : c.in_ok-states.states.items ≡ c.pop.new.self.items ++ c.in-Some.state ∷ [] = search rules in
    let w = only_one c.args.workers (g.J.Job.sheet c.args.job.now) c.in_ok-states.states.items c.pop.new.self.items c.in-Some.state c.in_ok-states.ensures e in
    (w.posted, w.proper)

pub returns-clause-replay : goal.returns-clause-replay
returns-clause-replay g c =
    let e : c.in_ok-states.states.items ≡ c.pop.new.self.items ++ c.in-Some.state ∷ [] = search rules in
    let w = only_one c.args.workers (g.J.Job.sheet c.args.job.now) c.in_ok-states.states.items c.pop.new.self.items c.in-Some.state c.in_ok-states.ensures e in
    w.core

pub returns-in_err-states-clause-stands : goal.returns-in_err-states-clause-stands
returns-in_err-states-clause-stands g c = IfOk-from_err _ _ c.from_residual.ensures.0

pub returns-in_err-states-clause-once : goal.returns-in_err-states-clause-once
returns-in_err-states-clause-once g c = IfOk-from_err _ _ c.from_residual.ensures.0

pub returns-in_err-states-clause-replay : goal.returns-in_err-states-clause-replay
returns-in_err-states-clause-replay g c = IfOk-from_err _ _ c.from_residual.ensures.0
