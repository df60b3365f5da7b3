use Rattle.std.proofs.Common.{◌+◌, ◌<◌, ◌^◌, ℕ, Option, length, get_or, subst, rules, arith}
use Rattle.std.proofs.lemmas.Result.{IfOk-from_err}
use Rattle.dpl_crowd.specs.Crowds.{graph_in}
use Rattle.dpl_crowd.specs.Walking.{IsLeast, IsOn, nowhere}
use Rattle.dpl_crowd.proofs.LeastLaws.{past-more}
use Rattle.dpl_crowd.proofs.least.least_level_edge.Goals as goal

pub loop-at-preserved : goal.loop-at-preserved
loop-at-preserved c =
    let many = c.requires.levels.as_many in
    let test = c.loop-at-test.true in
    let v : ℕ = c.loop-at.at in
    let v_in : v < length c.args.crowd.now.parts = omega (arith, test, many) in
    let other = c.if-levels-at.true in
    let small : get_or c.args.levels.now v 0 < 2 ^ 64 = search rules in
    let reached : get_or c.args.levels.now v 0 < nowhere = omega (arith, small, other) in
    past-more (graph_in c.args.crowd.now) (length c.args.crowd.now.parts) c.args.depth c.args.levels.now (λ u w e. e.second) c.requires.levels v v_in reached c.loop-at.invariant
    (subst (λ (o : Option ℕ). IsLeast (λ w. graph_in c.args.crowd.now v w × IsOn c.args.levels.now (v + 1) (get_or c.args.levels.now v 0) w) o) c.in_default.is c.in_ok-w.ensures)

pub returns-in_err-w-clause-past : goal.returns-in_err-w-clause-past
returns-in_err-w-clause-past c = IfOk-from_err _ _ c.from_residual.ensures.0

pub returns-in_err-w-clause-found : goal.returns-in_err-w-clause-found
returns-in_err-w-clause-found c = IfOk-from_err _ _ c.from_residual.ensures.0
