use Rattle.std.proofs.Common.{◌+◌, length}
use Rattle.dpl_links.specs.Marks.{unmarked}
use Rattle.dpl_links.proofs.SpreadLaws.{Spread}
use Rattle.dpl_links.proofs.reached.reach.Given as goal

abbrev pub invariant-loop-vertex : goal.invariant-loop-vertex
invariant-loop-vertex l = Spread l.graph l.from l.marks.items l.noted.items

abbrev pub decreases-loop-vertex : goal.decreases-loop-vertex
decreases-loop-vertex l = unmarked l.marks.items + length l.noted.items
