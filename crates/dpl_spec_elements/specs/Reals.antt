-- Eight-byte reals: excess-64 numbers to the base 16, with a mantissa of 56 bits that need not be normalised.
use Rattle.std.specs.Prelude.{◌≡◌, ℕ, ◌+◌, ◌*◌, ◌^◌, ◌%◌, ◌<◌, Bool, nat_le, ℤ, pos, negsuc, ◌+ℤ◌, ◌*ℤ◌, List, drop, fold, slice_index, if◌then◌else◌}

pub record Excess64 : Type 0 where
  pub negative : Bool
  pub exponent : ℕ
  pub mantissa : ℕ

-- the number that bytes spell, the greatest first
abbrev pub big_endian : List ℕ → ℕ
big_endian bytes = fold (λ n b. n * 256 + b) 0 bytes

-- the first byte has the sign bit and seven bits of exponent, the other seven have the mantissa
abbrev pub real_of : List ℕ → Excess64
real_of bytes = record { negative = nat_le 128 (slice_index bytes 0); exponent = slice_index bytes 0 % 128; mantissa = big_endian (drop 1 bytes) }

abbrev pub sign : Excess64 → ℤ
sign r = if r.negative then negsuc 0 else pos 1

-- the real, which is sign * mantissa / 2^56 * 16^(exponent - 64), is this whole number
abbrev pub IsWhole : Excess64 → ℤ → Type 0
IsWhole r q = sign r *ℤ pos (r.mantissa * 16 ^ r.exponent) ≡ q *ℤ pos (2 ^ 56 * 16 ^ 64)

-- the real is an angle, in degrees, of n quarter turns beside whole turns
abbrev pub IsQuarterTurns : Excess64 → ℕ → Type 0
IsQuarterTurns r n = (n < 4) × ((turns : ℤ) × IsWhole r (pos 90 *ℤ (pos 4 *ℤ turns +ℤ pos n)))

-- the real is an angle, in degrees, of some number of quarter turns
abbrev pub IsRightAngle : Excess64 → Type 0
IsRightAngle r = (quarters : ℤ) × IsWhole r (pos 90 *ℤ quarters)
