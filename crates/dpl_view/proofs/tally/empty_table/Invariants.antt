use Rattle.dpl_view.specs.Ranks.{AreEntries}
use Rattle.dpl_view.proofs.tally.empty_table.Given as goal

abbrev pub invariant-loop-rank : goal.invariant-loop-rank
invariant-loop-rank l = AreEntries (λ test. 0) l.ranks l.rank-index l.table.items
