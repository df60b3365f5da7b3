use Rattle.dpl_tile.specs.Adding.{Adds}
use Rattle.dpl_tile.proofs.Adding.{OfFirst}
use Rattle.dpl_tile.proofs.Loops.{Nth}
use Rattle.dpl_wide.specs.Sheets.{IsPairEdge}
use Rattle.dpl_wide.proofs.touching.add_pairs.Given as goal

abbrev pub invariant-loop-pair : goal.invariant-loop-pair
invariant-loop-pair l = Adds (OfFirst (Nth IsPairEdge l.pairs) l.pair-index) l.initial.edges.items l.edges.items
