-- What a mantissa and an exponent make, without the sign.
use Rattle.std.specs.Prelude.{◌≡◌, ℕ, ◌*◌, ◌%◌, ◌^◌}

-- they make the whole number v: m / 2^56 * 16^(e - 64)
abbrev pub IsMagnitude : ℕ → ℕ → ℕ → Type 0
IsMagnitude m e v = m * 16 ^ e ≡ v * (2 ^ 56 * 16 ^ 64)

-- they make a whole number that is d modulo 360
abbrev pub IsDegrees : ℕ → ℕ → ℕ → Type 0
IsDegrees m e d = (v : ℕ) × IsMagnitude m e v × (v % 360 ≡ d)
