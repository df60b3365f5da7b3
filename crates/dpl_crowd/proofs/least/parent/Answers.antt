use Rattle.std.proofs.Common.{◌<◌, ◌-◌, ℕ, Option, length, get_or, subst, arith}
use Rattle.std.proofs.lemmas.Result.{IfOk-from_err}
use Rattle.dpl_crowd.specs.Crowds.{graph_in}
use Rattle.dpl_crowd.specs.Walking.{IsLeast, IsOn}
use Rattle.dpl_crowd.proofs.LeastLaws.{parent-is, parent-some}
use Rattle.dpl_crowd.proofs.NearLaws.{crowd-undirected}
use Rattle.dpl_crowd.proofs.least.parent.Goals as goal

pub unreachable-requires : goal.unreachable-requires
unreachable-requires c =
    let many = c.requires.levels.as_many in
    let known = c.requires.known in
    let v_in : c.args.v < length c.args.crowd.now.parts = omega (arith, many, known) in
    parent-some (graph_in c.args.crowd.now) (length c.args.crowd.now.parts) c.args.depth c.args.levels.now (λ u v e. e.second) c.requires.levels (crowd-undirected c.args.crowd.now)
    c.args.v v_in c.requires.reached c.requires.high
    (subst (λ (o : Option ℕ). IsLeast (λ w. graph_in c.args.crowd.now c.args.v w × IsOn c.args.levels.now 0 (get_or c.args.levels.now c.args.v 0 - 1) w) o) c.in_default.is c.in_ok-w.ensures)

pub returns-clause-parent : goal.returns-clause-parent
returns-clause-parent c =
    let many = c.requires.levels.as_many in
    let known = c.requires.known in
    let v_in : c.args.v < length c.args.crowd.now.parts = omega (arith, many, known) in
    parent-is (graph_in c.args.crowd.now) (length c.args.crowd.now.parts) c.args.depth c.args.levels.now (λ u v e. e.second) c.requires.levels (crowd-undirected c.args.crowd.now)
    c.args.v v_in c.requires.reached c.requires.high c.in-Some.w
    (subst (λ (o : Option ℕ). IsLeast (λ w. graph_in c.args.crowd.now c.args.v w × IsOn c.args.levels.now 0 (get_or c.args.levels.now c.args.v 0 - 1) w) o) c.in-Some.is c.in_ok-w.ensures)

pub returns-in_err-w-clause-parent : goal.returns-in_err-w-clause-parent
returns-in_err-w-clause-parent c = IfOk-from_err _ _ c.from_residual.ensures.0

pub returns-in_err-w-clause-known : goal.returns-in_err-w-clause-known
returns-in_err-w-clause-known c = IfOk-from_err _ _ c.from_residual.ensures.0

pub returns-in_err-w-clause-lower : goal.returns-in_err-w-clause-lower
returns-in_err-w-clause-lower c = IfOk-from_err _ _ c.from_residual.ensures.0
