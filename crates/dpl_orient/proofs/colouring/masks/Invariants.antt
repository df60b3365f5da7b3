use Rattle.std.proofs.Common.{◌≡◌, map, take}
use Rattle.dpl_orient.specs.Masks.{is_second}
use Rattle.dpl_orient.specs.Crossings.{colours_of}
use Rattle.dpl_orient.proofs.colouring.masks.Given as goal

abbrev pub invariant-loop-rooted : goal.invariant-loop-rooted
invariant-loop-rooted l = map is_second l.masks.items ≡ colours_of (take l.rooted-index l.chart) l.flips
