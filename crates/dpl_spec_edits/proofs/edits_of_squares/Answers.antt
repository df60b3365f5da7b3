use Rattle.dpl_spec_split.specs.Squares.{Covers}
use Rattle.dpl_spec_edits.proofs.Making.{edited_at, edited_append}
use Rattle.dpl_spec_edits.proofs.edits_of_squares.Goals as goal

pub returns-clause-same : goal.returns-clause-same
returns-clause-same c = λ es a b h p. edited_at es (Covers a) (Covers b) p (h p)

pub returns-clause-in_a_row : goal.returns-clause-in_a_row
returns-clause-in_a_row c = λ es fs a p. edited_append es fs (Covers a) p
