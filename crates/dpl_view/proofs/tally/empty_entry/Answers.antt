use Rattle.std.proofs.Common.{sym}
use Rattle.dpl_view.proofs.tally.empty_entry.Goals as goal

pub returns : goal.returns
returns c = record { rank = sym c.layer_at.ensures.place; narrow = c.layer_at.ensures.narrow; counts = c.none.ensures c.layer_at.result }
