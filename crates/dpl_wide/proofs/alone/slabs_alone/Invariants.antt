use Rattle.std.specs.Prelude.{◌≡◌, take}
use Rattle.dpl_wide.specs.Touching.{alone}
use Rattle.dpl_wide.proofs.alone.slabs_alone.Given as goal

abbrev pub invariant-loop-r : goal.invariant-loop-r
invariant-loop-r l = l.sets.items ≡ alone (take l.r-index l.rects)
