use Rattle.std.proofs.Common.{arith}
use Rattle.std.proofs.lemmas.Result.{IfOk-from_err}
use Rattle.dpl_tile.proofs.Loops.{each-all, each-next, each-none}
use Rattle.dpl_edges.specs.Found.{IsBetween}
use Rattle.dpl_edges.proofs.Finding.{between-all}
use Rattle.dpl_edges.proofs.pairs.edges_between.Goals as goal

pub loop-edge-init : goal.loop-edge-init
loop-edge-init c = each-none (IsBetween c.args.low c.args.high) c.args.found.now _

pub loop-edge-preserved : goal.loop-edge-preserved
loop-edge-preserved c = each-next (IsBetween c.args.low c.args.high) c.args.found.now c.loop-edge.edge-index _ _ c.loop-edge.edges.items _
    c.loop-edge-test.true c.loop-edge.invariant c.in_ok-add_between.ensures

pub returns : goal.returns
returns c = between-all c.args.low c.args.high c.args.found.now c.new-edges.result.items c.loop-edge.edges.items c.new-edges.ensures.items
    (each-all (IsBetween c.args.low c.args.high) c.args.found.now c.loop-edge.edge-index _ c.loop-edge.edges.items (omega arith) c.loop-edge.invariant)

pub returns-in_err-add_between : goal.returns-in_err-add_between
returns-in_err-add_between c = IfOk-from_err _ _ c.from_residual.ensures.0
