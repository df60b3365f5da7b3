use Rattle.std.proofs.Common.{arith}
use Rattle.dpl_reals.proofs.Powers.{bytes-fit}
use Rattle.dpl_reals.proofs.mantissa_of.Goals as goal

pub overflow_mul-mantissa : goal.overflow_mul-mantissa
overflow_mul-mantissa c = let h = bytes-fit c.loop-byte.mantissa c.loop-byte.byte-index 0 c.loop-byte.invariant.small (omega arith) (omega arith) in omega (arith, h)
