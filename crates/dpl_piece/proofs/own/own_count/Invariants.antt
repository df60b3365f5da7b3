use Rattle.std.proofs.Common.{◌≡◌, take}
use Rattle.std.specs.List.{All}
use Rattle.dpl_piece.specs.Pieces.{feature_at}
use Rattle.dpl_piece.proofs.own.own_count.Given as goal

abbrev pub invariant-loop-i : goal.invariant-loop-i
invariant-loop-i l = All (λ j. feature_at l.zones j ≡ l.feature) (take l.i l.numbers)
