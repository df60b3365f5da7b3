use Rattle.std.proofs.Common.{◌≡◌, take}
use Rattle.dpl_tile.specs.Bounds.{round_all}
use Rattle.dpl_tile.proofs.bounds.round_all.Given as goal

abbrev pub invariant-loop-r : goal.invariant-loop-r
invariant-loop-r l = l.bounds ≡ round_all l.initial.bounds (take l.r-index l.rects)
