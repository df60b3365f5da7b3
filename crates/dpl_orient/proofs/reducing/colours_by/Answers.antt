use Rattle.std.proofs.lemmas.Result.{IfOk-weaker, IfOk-from_err}
use Rattle.dpl_orient.proofs.Leading.{many-first, many-last, reduced, unreduced}
use Rattle.dpl_orient.proofs.reducing.colours_by.Goals as goal

pub returns-then-reduce-clause-colours : goal.returns-then-reduce-clause-colours
returns-then-reduce-clause-colours c = IfOk-weaker c.fewer.result _ _
    (λ last graph. reduced c.args.reduce c.args.fixed c.args.joined.now c.args.n c.args.sides.now last c.if-reduce.true graph) c.fewer.ensures.graph

pub returns-then-reduce-clause-each : goal.returns-then-reduce-clause-each
returns-then-reduce-clause-each c = IfOk-weaker c.fewer.result _ _
    (λ last led. many-last c.args.joined.now c.args.n c.args.sides.now c.args.fixed c.in_ok-first.first last c.in_ok-first.ensures.colours led) c.fewer.ensures.led

pub returns-clause-colours : goal.returns-clause-colours
returns-clause-colours c =
    unreduced c.args.reduce c.args.fixed c.args.joined.now c.args.n c.args.sides.now c.in_ok-first.first c.if-reduce.false c.in_ok-first.ensures.graph

pub returns-clause-each : goal.returns-clause-each
returns-clause-each c = many-first c.args.joined.now c.args.n c.args.sides.now c.in_ok-first.first c.in_ok-first.ensures.colours

pub returns-in_err-first-clause-colours : goal.returns-in_err-first-clause-colours
returns-in_err-first-clause-colours c = IfOk-from_err _ _ c.from_residual.ensures.0

pub returns-in_err-first-clause-each : goal.returns-in_err-first-clause-each
returns-in_err-first-clause-each c = IfOk-from_err _ _ c.from_residual.ensures.0
