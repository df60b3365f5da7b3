use Rattle.std.proofs.Common.{◌≡◌, ◌++◌, length, take}
use Rattle.dpl_words.specs.Meaning.{batch_view}
use Rattle.dpl_run.specs.BatchMade.{decided_together}
use Rattle.dpl_run.specs.View.{output_view}
use Rattle.dpl_run.proofs.batch.all_decided.Given as goal

-- what the decisions lead to that were met
abbrev pub invariant-loop-decision : goal.invariant-loop-decision
invariant-loop-decision g l = (l.yielded ++ l.decision-iterator.rest.items ≡ l.fn.decisions.items) × (l.at ≡ length l.yielded)
    × (output_view l.all ≡ decided_together (batch_view l.options) (take l.at l.options.layers.items) l.yielded)
