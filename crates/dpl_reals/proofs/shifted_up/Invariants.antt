use Rattle.std.proofs.Common.{◌≡◌, ◌^◌, ◌%◌, ◌*◌}
use Rattle.dpl_reals.proofs.shifted_up.Given as goal

abbrev pub invariant-loop-place : goal.invariant-loop-place
invariant-loop-place l = l.degrees ≡ l.mantissa * 16 ^ l._place % 360
