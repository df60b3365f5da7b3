-- Spacings of copies.
use Rattle.std.proofs.Common.{◌*◌, ◌/◌, ◌≡◌, suc, ◌≤◌, ℤ, pos, negsuc, arith}
use Rattle.std.specs.Prelude.{unsigned_abs, int_div}
use Rattle.std.proofs.lemmas.Int.{ints}
use Rattle.std.proofs.Math.Nat.{mul-div-le}

pub quot_times : (a d : ℤ) → unsigned_abs d * unsigned_abs (int_div a d) ≤ unsigned_abs a
quot_times (pos a) (pos b) = mul-div-le a b
quot_times (pos a) (negsuc b) = let e : unsigned_abs (int_div (pos a) (negsuc b)) ≡ a / suc b = omega (arith, ints) in rw e (mul-div-le a (suc b))
quot_times (negsuc a) (pos b) = let e : unsigned_abs (int_div (negsuc a) (pos b)) ≡ suc a / b = omega (arith, ints) in rw e (mul-div-le (suc a) b)
quot_times (negsuc a) (negsuc b) = mul-div-le (suc a) (suc b)
