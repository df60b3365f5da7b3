use Rattle.std.proofs.Common.{arith}
use Rattle.std.proofs.lemmas.Result.{IfOk-from_err}
use Rattle.dpl_spec_split.specs.Squares.{Has}
use Rattle.dpl_tile.proofs.Loops.{each-all, each-next, each-none}
use Rattle.dpl_edges.proofs.Gathering.{IsMeetingEdge, first-known, item-solid, meeting-edges, second-known}
use Rattle.dpl_edges.proofs.gather.edges_among.Goals as goal

pub loop-m-init : goal.loop-m-init
loop-m-init c = each-none (IsMeetingEdge c.args.plan.now c.args.cell.now) c.args.meetings.now _

pub bounds-items-m : goal.bounds-items-m
bounds-items-m c = rw c.items-items.ensures.value (first-known c.args.plan.now (Has c.args.cell.now) c.args.meetings.now c.loop-m.m-index _ c.requires.meetings c.loop-m-test.true)

pub bounds-items-m-in-loop-m : goal.bounds-items-m-in-loop-m
bounds-items-m-in-loop-m c = rw c.items-items.ensures.value (second-known c.args.plan.now (Has c.args.cell.now) c.args.meetings.now c.loop-m.m-index _ c.requires.meetings c.loop-m-test.true)

pub add_edge-requires-clause-first : goal.add_edge-requires-clause-first
add_edge-requires-clause-first c = rw c.items-items.ensures.value (item-solid c.args.plan.now _ c.items-items.ensures.items c.items-items.ensures.parts
    (first-known c.args.plan.now (Has c.args.cell.now) c.args.meetings.now c.loop-m.m-index _ c.requires.meetings c.loop-m-test.true))

pub add_edge-requires-clause-second : goal.add_edge-requires-clause-second
add_edge-requires-clause-second c = rw c.items-items.ensures.value (item-solid c.args.plan.now _ c.items-items.ensures.items c.items-items.ensures.parts
    (second-known c.args.plan.now (Has c.args.cell.now) c.args.meetings.now c.loop-m.m-index _ c.requires.meetings c.loop-m-test.true))

pub loop-m-preserved : goal.loop-m-preserved
loop-m-preserved c = each-next (IsMeetingEdge c.args.plan.now c.args.cell.now) c.args.meetings.now c.loop-m.m-index _ _ c.loop-m.found.items _ c.loop-m-test.true
    c.loop-m.invariant (rw (c.items-items.ensures.value, c.spacing-spacing.ensures.value) at c.in_ok-add_edge.ensures)

pub returns-clause-edges : goal.returns-clause-edges
returns-clause-edges c = meeting-edges c.args.plan.now c.args.cell.now c.args.meetings.now c.items-items.ensures.items c.requires.meetings _ c.loop-m.found.items c.new-found.ensures.items
    (each-all (IsMeetingEdge c.args.plan.now c.args.cell.now) c.args.meetings.now c.loop-m.m-index _ c.loop-m.found.items (omega arith) c.loop-m.invariant)

pub returns-in_err-add_edge-clause-edges : goal.returns-in_err-add_edge-clause-edges
returns-in_err-add_edge-clause-edges c = IfOk-from_err _ _ c.from_residual.ensures.0
