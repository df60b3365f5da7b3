use Rattle.std.proofs.Common.{arith}
use Rattle.dpl_tile.proofs.Loops.{each-all, each-next, each-none}
use Rattle.dpl_session.proofs.Conflicting.{IsEdgeNamed, adds_ends}
use Rattle.dpl_session.proofs.edges.add_named.Goals as goal

pub loop-i-init : goal.loop-i-init
loop-i-init c = each-none (IsEdgeNamed c.args.names.now) c.args.edges.now _

pub loop-i-preserved : goal.loop-i-preserved
loop-i-preserved c = each-next (IsEdgeNamed c.args.names.now) c.args.edges.now c.loop-i.i-index _ _ c.loop-i.all.items _ c.loop-i-test.true
    c.loop-i.invariant (adds_ends _ _ c.ends.result c.loop-i.all.items _ c.ends.ensures c.in_ok-push.ensures.items)

pub returns : goal.returns
returns c = each-all (IsEdgeNamed c.args.names.now) c.args.edges.now c.loop-i.i-index _ c.loop-i.all.items (omega arith) c.loop-i.invariant
