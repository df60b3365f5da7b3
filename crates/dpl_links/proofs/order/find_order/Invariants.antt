use Rattle.dpl_links.specs.Order.{IsSearch, left}
use Rattle.dpl_links.proofs.order.find_order.Given as goal

abbrev pub invariant-loop-visit : goal.invariant-loop-visit
invariant-loop-visit l = IsSearch l.graph l.from l.search.found.items l.search.closed.items l.search.levels.items l.search.vertices.items l.search.path.items

abbrev pub decreases-loop-visit : goal.decreases-loop-visit
decreases-loop-visit l = left l.graph l.search.found.items l.search.path.items
