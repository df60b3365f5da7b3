use Rattle.dpl_flatten.proofs.TotalLaws.{Totalled}
use Rattle.dpl_flatten.proofs.count.totals.Given as goal

abbrev pub invariant-loop-structure : goal.invariant-loop-structure
invariant-loop-structure l = Totalled l.lib l.chosen l.links.marks.now l.order.levels.items l.structure-index l.totals.items
