use Rattle.dpl_law_outcome.proofs.Drawn.{edits-drawn, no-edits}
use Rattle.dpl_law_outcome.proofs.edits.edits_are_as_drawn.Goals as goal

pub returns : goal.returns
returns c = record { drawn = edits-drawn; no_edits = no-edits }
