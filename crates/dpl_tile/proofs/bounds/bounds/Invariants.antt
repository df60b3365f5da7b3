use Rattle.std.proofs.Common.{◌≡◌, take}
use Rattle.std.specs.Prelude.{None}
use Rattle.std.specs.List.{fold}
use Rattle.dpl_tile.specs.Bounds.{round_all}
use Rattle.dpl_tile.proofs.bounds.bounds.Given as goal

abbrev pub invariant-loop-part : goal.invariant-loop-part
invariant-loop-part l = l.bounds ≡ fold round_all None (take l.part-index l.parts)
