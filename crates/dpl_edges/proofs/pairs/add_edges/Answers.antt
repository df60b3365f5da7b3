use Rattle.std.proofs.Common.{arith}
use Rattle.std.proofs.lemmas.List.Elements.{Contains-get_or}
use Rattle.std.proofs.lemmas.Result.{IfOk-from_err}
use Rattle.dpl_tile.proofs.Loops.{each-all, each-next, each-none}
use Rattle.dpl_edges.specs.Found.{IsFoesEdge}
use Rattle.dpl_edges.proofs.pairs.add_edges.Goals as goal

pub loop-pair-init : goal.loop-pair-init
loop-pair-init c = each-none (IsFoesEdge c.args.spacing c.args.owners.now c.args.items.now) c.args.pairs.now _

pub add_edge-requires-clause-first : goal.add_edge-requires-clause-first
add_edge-requires-clause-first c = (c.requires.known _ (Contains-get_or c.args.pairs.now c.loop-pair.pair-index _ c.loop-pair-test.true)).0

pub add_edge-requires-clause-second : goal.add_edge-requires-clause-second
add_edge-requires-clause-second c = (c.requires.known _ (Contains-get_or c.args.pairs.now c.loop-pair.pair-index _ c.loop-pair-test.true)).1

pub loop-pair-preserved : goal.loop-pair-preserved
loop-pair-preserved c = each-next (IsFoesEdge c.args.spacing c.args.owners.now c.args.items.now) c.args.pairs.now c.loop-pair.pair-index _ _ c.loop-pair.found.items _
    c.loop-pair-test.true c.loop-pair.invariant c.in_ok-add_edge.ensures

pub returns : goal.returns
returns c = each-all (IsFoesEdge c.args.spacing c.args.owners.now c.args.items.now) c.args.pairs.now c.loop-pair.pair-index _
    c.loop-pair.found.items (omega arith) c.loop-pair.invariant

pub returns-in_err-add_edge : goal.returns-in_err-add_edge
returns-in_err-add_edge c = IfOk-from_err _ _ c.from_residual.ensures.0
