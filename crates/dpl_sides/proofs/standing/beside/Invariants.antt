use Rattle.std.proofs.Common.{ℕ, ◌<◌}
use Rattle.dpl_sides.specs.Pieces.{parts_in}
use Rattle.dpl_sides.proofs.StandingLaws.{HasSlab}
use Rattle.dpl_sides.proofs.standing.beside.Given as goal

abbrev pub invariant-loop-k : goal.invariant-loop-k
invariant-loop-k l = (j : ℕ) → j < l.k → HasSlab l.side (parts_in l.pieces) l.from l.zone j → ⊥
