use Rattle.dpl_tree.proofs.SearchLaws.{AreBarred}
use Rattle.dpl_tree.proofs.search.find_in.Given as goal

abbrev pub invariant-loop-i : goal.invariant-loop-i
invariant-loop-i g l = AreBarred g.T.Bounded.block_of l.things l.at l.i l.window l.owners
