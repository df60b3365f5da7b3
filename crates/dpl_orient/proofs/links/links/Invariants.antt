use Rattle.std.proofs.Common.{◌≡◌, map, take}
use Rattle.dpl_orient.specs.Masks.{is_second}
use Rattle.dpl_orient.specs.Links.{links_of}
use Rattle.dpl_orient.proofs.links.links.Given as goal

abbrev pub invariant-loop-side : goal.invariant-loop-side
invariant-loop-side l = l.links.items ≡ links_of l.chart (map is_second l.masks) (take l.side-index l.sides)
