use Rattle.dpl_tile.proofs.Loops.{adds-again, adds-push}
use Rattle.dpl_tile.proofs.cells.add_place.Goals as goal

pub returns-then-is_last-clause-added : goal.returns-then-is_last-clause-added
returns-then-is_last-clause-added c = adds-again c.args.places.now.items c.args.place (rw c.deref.ensures.value at (c.is_last.ensures c.if-is_last.true))

pub returns-clause-added : goal.returns-clause-added
returns-clause-added c = adds-push c.args.places.now.items _ c.args.place c.in_ok-push.ensures.items
