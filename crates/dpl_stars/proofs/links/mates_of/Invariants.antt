use Rattle.std.proofs.Common.{take}
use Rattle.dpl_stars.specs.Links.{HasMates}
use Rattle.dpl_stars.proofs.links.mates_of.Given as goal

abbrev pub invariant-loop-row : goal.invariant-loop-row
invariant-loop-row l = HasMates l.places l.rows (take l.row-index l.rows) l.mates.items
