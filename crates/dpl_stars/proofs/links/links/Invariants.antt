use Rattle.std.proofs.Common.{take}
use Rattle.dpl_stars.specs.Links.{AreLinks}
use Rattle.dpl_stars.proofs.links.links.Given as goal

abbrev pub invariant-loop-row : goal.invariant-loop-row
invariant-loop-row l = AreLinks l.rows (take l.row-index l.rows) l.links.items
