-- The signed value of a real from its magnitude.
use Rattle.std.proofs.Common.{◌≡◌, ℕ, zero, suc, ◌+◌, ◌-◌, ◌*◌, ◌/◌, ◌%◌, ◌^◌, ◌<◌, Bool, true, false, refl, sym, ap, ◌∙◌, subst, arith}
use Rattle.std.specs.Prelude.{ℤ, pos, negsuc, ◌+ℤ◌, ◌*ℤ◌, neg_ℤ, unsigned_abs, if◌then◌else◌}
use Rattle.std.proofs.lemmas.Int.{ints, unsigned_abs-mul}
use Rattle.dpl_spec_elements.specs.Reals.{Excess64, sign, IsWhole, IsQuarterTurns, IsRightAngle}
use Rattle.dpl_reals.proofs.Powers.{magnitude-one}
use Rattle.dpl_reals.specs.Magnitudes.{IsMagnitude, IsDegrees}

unsigned_abs-sign : (r : Excess64) → unsigned_abs (sign r) ≡ 1
unsigned_abs-sign r = elim r.negative as (λ b. unsigned_abs (if b then negsuc 0 else pos 1) ≡ 1) [ true ↦ refl | false ↦ refl ]

-- a whole value has the magnitude that mantissa and exponent make
pub whole-magnitude : (r : Excess64) (q : ℤ) → IsWhole r q → IsMagnitude r.mantissa r.exponent (unsigned_abs q)
whole-magnitude r q h =
    let m : ℕ = r.mantissa * 16 ^ r.exponent in
    let n : ℕ = 2 ^ 56 * 16 ^ 64 in
    let a : unsigned_abs (sign r *ℤ pos m) ≡ 1 * m = unsigned_abs-mul (sign r) (pos m) ∙ ap (λ k. k * m) (unsigned_abs-sign r) in
    let b : 1 * m ≡ m = omega arith in
    sym (a ∙ b) ∙ (ap unsigned_abs h ∙ unsigned_abs-mul q (pos n))

signed : (b : Bool) (m n v : ℕ) → m ≡ v * n → (if b then negsuc 0 else pos 1) *ℤ pos m ≡ (if b then neg_ℤ (pos v) else pos v) *ℤ pos n
signed true m n zero e = omega (arith, ints, e)
signed true m n (suc v) e = (let one : 1 * m ≡ suc v * n = omega (arith, e) in ap (λ k. neg_ℤ (pos k)) one)
signed false m n v e = (let one : 1 * m ≡ v * n = omega (arith, e) in ap pos one)

pub magnitude-whole : (r : Excess64) (v : ℕ) → IsMagnitude r.mantissa r.exponent v → IsWhole r (if r.negative then neg_ℤ (pos v) else pos v)
magnitude-whole r v h = signed r.negative (r.mantissa * 16 ^ r.exponent) (2 ^ 56 * 16 ^ 64) v h

-- a right angle's magnitude is a multiple of 90
pub right-magnitude : (r : Excess64) (k : ℤ) → IsWhole r (pos 90 *ℤ k) → IsMagnitude r.mantissa r.exponent (90 * unsigned_abs k)
right-magnitude r k h = subst (IsMagnitude r.mantissa r.exponent) (unsigned_abs-mul (pos 90) k) (whole-magnitude r (pos 90 *ℤ k) h)

-- a right angle's magnitude modulo 360 is one modulo 90
pub degrees-right : (r : Excess64) (d : ℕ) → IsDegrees r.mantissa r.exponent d → IsRightAngle r → d % 90 ≡ 0
degrees-right r d (v, is, v_is) (k, h) =
    let same : v ≡ 90 * unsigned_abs k = magnitude-one r.mantissa r.exponent v (90 * unsigned_abs k) is (right-magnitude r k h) in
    omega (arith, same, v_is)

pub none-right : (r : Excess64) → ((v : ℕ) → IsMagnitude r.mantissa r.exponent v → ⊥) → IsRightAngle r → ⊥
none-right r none (k, h) = none (90 * unsigned_abs k) (right-magnitude r k h)

-- v degrees in whole turns and quarter turns
turned-whole : (b : Bool) (v j n : ℕ) → n < 4 → v ≡ 90 * (4 * j + n)
    → (t : ℤ) × ((if b then neg_ℤ (pos v) else pos v) ≡ pos 90 *ℤ (pos 4 *ℤ t +ℤ pos (if b then (4 - n) % 4 else n)))
turned-whole true v j zero few is = (neg_ℤ (pos j), omega (arith, ints, is))
turned-whole true v j (suc n) few is = (
  negsuc j,
  (let rest : (4 - suc n) % 4 ≡ 3 - n = omega (arith, few) in omega (arith, ints, is, few, rest)),
)
turned-whole false v j n few is = (pos j, omega (arith, ints, is))

pub quarter-turns : (r : Excess64) (d q n : ℕ) → IsDegrees r.mantissa r.exponent d → d % 90 ≡ 0 → q ≡ d / 90 → n ≡ (if r.negative then (4 - q) % 4 else q) → IsQuarterTurns r n
quarter-turns r d q n (v, is, v_is) right q_is n_is =
    let few : q < 4 = omega (arith, q_is, v_is) in
    let j : ℕ = v / 360 in
    let whole : v ≡ 90 * (4 * j + q) = omega (arith, right, q_is, v_is) in
    let (t, e) = turned-whole r.negative v j q few whole in
    let below : (if r.negative then (4 - q) % 4 else q) < 4 = elim r.negative as (λ b. (if b then (4 - q) % 4 else q) < 4) [ true ↦ omega (arith, few) | false ↦ few ] in
    (subst (λ k. k < 4) (sym n_is) below, (t, subst (λ k. IsWhole r (pos 90 *ℤ (pos 4 *ℤ t +ℤ pos k))) (sym n_is) (subst (IsWhole r) e (magnitude-whole r v is))))
