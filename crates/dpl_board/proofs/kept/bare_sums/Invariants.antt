use Rattle.std.proofs.Common.{◌≡◌, vec_len}
use Rattle.dpl_board.proofs.kept.bare_sums.Given as goal

abbrev pub invariant-loop-made : goal.invariant-loop-made
invariant-loop-made l = vec_len l.sums ≡ l._made
