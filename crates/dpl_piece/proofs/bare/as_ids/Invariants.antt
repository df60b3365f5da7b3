use Rattle.std.proofs.Common.{◌≡◌, take}
use Rattle.dpl_piece.proofs.bare.as_ids.Given as goal

abbrev pub invariant-loop-first : goal.invariant-loop-first
invariant-loop-first l = l.ids.items ≡ take l.first-index l.sides
