use Rattle.dpl_view.specs.Layers.{AreMore}
use Rattle.dpl_view.proofs.CountLaws.{count_below}
use Rattle.dpl_view.proofs.tally.tally_file.Given as goal

abbrev pub invariant-loop-structure : goal.invariant-loop-structure
invariant-loop-structure l = AreMore (count_below l.lib l.structure) l.fn.table l.table
