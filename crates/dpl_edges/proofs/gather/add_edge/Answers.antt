use Rattle.std.proofs.Common.{refl}
use Rattle.std.proofs.lemmas.Result.{IfOk-from_err}
use Rattle.dpl_edges.proofs.Gathering.{edge-again, edge-push}
use Rattle.dpl_edges.proofs.gather.add_edge.Goals as goal

pub returns-then-is_last : goal.returns-then-is_last
returns-then-is_last c = edge-again c.args.spacing c.args.cell.now c.args.a.now c.args.b.now c.args.found.now.items _ (c.if-not-meet_in.ensures.0 refl) c.ends-edge.ensures
    (rw c.deref.ensures.value at (c.is_last.ensures c.if-is_last.true))

pub returns : goal.returns
returns c = edge-push c.args.spacing c.args.cell.now c.args.a.now c.args.b.now c.args.found.now.items _ _ (c.if-not-meet_in.ensures.0 refl) c.ends-edge.ensures c.in_ok-push.ensures.items

pub meet_in-requires-clause-corner : goal.meet_in-requires-clause-corner
meet_in-requires-clause-corner c = c.requires.corner

pub meet_in-requires-clause-first : goal.meet_in-requires-clause-first
meet_in-requires-clause-first c = c.requires.first

pub meet_in-requires-clause-second : goal.meet_in-requires-clause-second
meet_in-requires-clause-second c = c.requires.second

pub meet_in-requires-clause-cell : goal.meet_in-requires-clause-cell
meet_in-requires-clause-cell c = c.requires.cell

pub returns-in_err-push : goal.returns-in_err-push
returns-in_err-push c = IfOk-from_err _ _ c.from_residual.ensures.0
