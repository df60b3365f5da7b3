use Rattle.dpl_links.specs.Parts.{IsSearching, parts_left}
use Rattle.dpl_links.proofs.levels.find_levels.Given as goal

abbrev pub invariant-loop-visit : goal.invariant-loop-visit
invariant-loop-visit l = IsSearching l.graph l.from l.search l.search.parts.items l.search.path.items

abbrev pub decreases-loop-visit : goal.decreases-loop-visit
decreases-loop-visit l = parts_left l.graph l.search.found.items l.search.path.items l.search.parts.items
