use Rattle.std.proofs.Common.{◌≡◌, map, take}
use Rattle.dpl_orient.specs.Masks.{is_second}
use Rattle.dpl_orient.specs.Links.{letters_of}
use Rattle.dpl_orient.proofs.reducing.turned.Given as goal

abbrev pub invariant-loop-piece : goal.invariant-loop-piece
invariant-loop-piece l = map is_second l.turned.items ≡ take l.piece (letters_of l.chart (map is_second l.masks) l.flips)
