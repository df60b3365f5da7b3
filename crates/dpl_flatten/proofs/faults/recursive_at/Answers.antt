use Rattle.std.proofs.Common.{refl}
use Rattle.std.proofs.lemmas.Result.{IfOk-from_err}
use Rattle.dpl_spec_layout.specs.Faults.{IsOnCycle}
use Rattle.dpl_flatten.proofs.FoundLaws.{first_of}
use Rattle.dpl_flatten.proofs.LinkLaws.{graph_known}
use Rattle.dpl_flatten.proofs.ReachLaws.{cycle_there, levelled_of}
use Rattle.dpl_flatten.proofs.faults.recursive_at.Goals as goal

pub find_levels-requires-clause-graph : goal.find_levels-requires-clause-graph
find_levels-requires-clause-graph c = graph_known c.args.lib.now c.args.links.now.graph.now c.requires.links.graph_of

pub first-requires-clause-levels : goal.first-requires-clause-levels
first-requires-clause-levels c = rw c.deref.ensures.value
    (levelled_of c.args.lib.now c.args.links.now.graph.now c.args.top c.args.links.now.marks.now c.in_ok-levels.levels.items c.requires.links
    c.requires.reached c.in_ok-levels.ensures.levels)

pub unreachable-requires : goal.unreachable-requires
unreachable-requires c = cycle_there c.args.lib.now c.args.links.now.graph.now c.args.top c.args.links.now.marks.now _
    c.requires.links.graph_of c.requires.reached c.requires.cycle refl (rw c.in-None.is at c.in_ok-found.ensures)

pub returns : goal.returns
returns c = first_of c.args.lib.now c.args.links.now.graph.now c.args.top c.args.links.now.marks.now c.requires.links.graph_of
    c.requires.reached (IsOnCycle c.args.lib.now) c.in-Some.at (rw c.in-Some.is at c.in_ok-found.ensures)

pub returns-in_err-levels : goal.returns-in_err-levels
returns-in_err-levels c = IfOk-from_err _ _ c.from_residual.ensures.0

pub returns-in_err-found : goal.returns-in_err-found
returns-in_err-found c = IfOk-from_err _ _ c.from_residual-in_err-found.ensures.0
