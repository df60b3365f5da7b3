use Rattle.std.proofs.Common.{◌≡◌, ◌++◌, map, Ok}
use Rattle.std.specs.Vec.Iter.{into_iter_items}
use Rattle.dpl_piece.proofs.made.gathered.Given as goal

abbrev pub invariant-loop-pile : goal.invariant-loop-pile
invariant-loop-pile l = l.fn.made.items ≡ map Ok l.piles.items ++ into_iter_items l.pile-iterator
