use Rattle.std.proofs.Common.{length}
use Rattle.std.proofs.lemmas.Result.{IfOk-from_err}
use Rattle.dpl_spec_split.specs.Graphs.{graph_of}
use Rattle.dpl_spec_split.specs.Pieces.{Conflict}
use Rattle.dpl_session.proofs.Deciding.{decides_same, edges_below, same_conflicts}
use Rattle.dpl_session.proofs.session.settle.Goals as goal

pub decide-requires-clause-edges : goal.decide-requires-clause-edges
decide-requires-clause-edges g c =
    let pieces = c.args.cut.now.pieces in
    rw (c.deref.ensures.value, c.items.ensures.value, c.parts.ensures.value) (edges_below c.args.spacing pieces.parts pieces.owners c.in_ok-found.found.edges.items
    c.in_ok-found.ensures.tiles.conflicts)

pub decide-requires-clause-sides : goal.decide-requires-clause-sides
decide-requires-clause-sides g c = rw (c.sides.ensures.value, c.items.ensures.value, c.parts.ensures.value) c.sides.ensures.known

pub returns-clause-tiles : goal.returns-clause-tiles
returns-clause-tiles g c = (c.in_ok-found.found.edges.items, c.in_ok-found.ensures.tiles)

pub returns-clause-decided : goal.returns-clause-decided
returns-clause-decided g c =
    let pieces = c.args.cut.now.pieces in
    let edges = c.in_ok-found.found.edges.items in
    let told = rw (c.deref.ensures.value, c.items.ensures.value, c.parts.ensures.value, c.sides.ensures.value) at c.in_ok-verdict.ensures in
    decides_same (graph_of edges) (Conflict c.args.spacing pieces.parts pieces.owners) (length pieces.parts) pieces.sides c.in_ok-verdict.verdict
    (same_conflicts c.args.spacing pieces.parts pieces.owners edges c.in_ok-found.ensures.tiles.conflicts) told

pub returns-in_err-found-clause-tiles : goal.returns-in_err-found-clause-tiles
returns-in_err-found-clause-tiles g c = IfOk-from_err _ _ c.from_residual.ensures.0

pub returns-in_err-found-clause-decided : goal.returns-in_err-found-clause-decided
returns-in_err-found-clause-decided g c = IfOk-from_err _ _ c.from_residual.ensures.0

pub returns-in_err-verdict-clause-tiles : goal.returns-in_err-verdict-clause-tiles
returns-in_err-verdict-clause-tiles g c = IfOk-from_err _ _ c.from_residual-in_err-verdict.ensures.0

pub returns-in_err-verdict-clause-decided : goal.returns-in_err-verdict-clause-decided
returns-in_err-verdict-clause-decided g c = IfOk-from_err _ _ c.from_residual-in_err-verdict.ensures.0
