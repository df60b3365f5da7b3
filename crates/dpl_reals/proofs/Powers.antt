-- Shifting a mantissa by whole digits to the base 16.
use Rattle.std.proofs.Common.{◌≡◌, ℕ, zero, suc, ◌+◌, ◌-◌, ◌*◌, ◌/◌, ◌%◌, ◌^◌, ◌<◌, ◌≤◌, refl, sym, ap, ◌∙◌, subst, arith, lit<}
use Rattle.std.specs.Prelude.{Option, Some, None, IfNone}
use Rattle.std.proofs.lemmas.Nat.{pow-add, mul-mod_first}
use Rattle.std.proofs.Math.Nat.{pow-le-pow_right, one-le-pow, mul-div_cancel, mul-mod_left}
use Rattle.dpl_reals.specs.Magnitudes.{IsMagnitude, IsDegrees}

pub pow-some : (n : ℕ) → 0 < 16 ^ n
pow-some n = let h = one-le-pow n 16 (omega arith) in omega (arith, h)

-- seven bytes
pub bytes-fit : (m i b : ℕ) → m < 256 ^ i → i < 7 → b < 256 → m * 256 + b < 2 ^ 56
bytes-fit m i b small few byte =
    let le : i ≤ 6 = omega arith in
    let h : 256 ^ i ≤ 256 ^ 6 = pow-le-pow_right (omega arith) le in
    omega (arith, h, small, byte)

pub byte-more : (m i b : ℕ) → m < 256 ^ i → b < 256 → m * 256 + b < 256 ^ (i + 1)
byte-more m i b small byte =
    let e : 256 ^ (i + 1) ≡ 256 ^ i * 256 = pow-add 256 i 1 in
    omega (arith, e, small, byte)

cancel : (a b n : ℕ) → 0 < n → a * n ≡ b * n → a ≡ b
cancel a b n some e = sym (mul-div_cancel a some) ∙ (ap (λ k. k / n) e ∙ mul-div_cancel b some)

-- more digits than the mantissa has
pub none-past : (m k v : ℕ) → m < 2 ^ 56 → 13 < k → 0 < m → m ≡ v * 16 ^ k → ⊥
none-past m k zero small far some e = omega (arith, e, some)
none-past m k (suc v) small far some e =
    let le : 14 ≤ k = omega arith in
    let h : 16 ^ 14 ≤ 16 ^ k = pow-le-pow_right (omega arith) le in
    let f : m ≡ suc v * 16 ^ k = e in
    let g : suc v * 16 ^ k ≡ v * 16 ^ k + 16 ^ k = grind arith in
    omega (arith, h, f, g, small)

pub none-rest : (m k u v : ℕ) → u ≡ 16 ^ k → (m % u ≡ 0 → ⊥) → m ≡ v * 16 ^ k → ⊥
none-rest m k u v u_is rest e =
    rest (ap (λ n. n % u) (e ∙ ap (λ n. v * n) (sym u_is)) ∙ mul-mod_left v u)

pub whole-part : (m k u : ℕ) → u ≡ 16 ^ k → m % u ≡ 0 → m ≡ m / u * 16 ^ k
whole-part m k u u_is rest =
    let some : 0 < u = subst (λ n. 0 < n) (sym u_is) (pow-some k) in
    let h : m ≡ m / u * u = grind (arith, rest, some) in
    h ∙ ap (λ n. m / u * n) u_is

-- an exponent below 78
pub magnitude-down : (m e k v : ℕ) → e + k ≡ 78 → m ≡ v * 16 ^ k → IsMagnitude m e v
magnitude-down m e k v split is =
    let a : 16 ^ (k + e) ≡ 16 ^ k * 16 ^ e = pow-add 16 k e in
    let b : k + e ≡ 78 = omega (arith, split) in
    let c : 16 ^ (k + e) ≡ 2 ^ 56 * 16 ^ 64 = ap (λ n. 16 ^ n) b in
    let d : v * 16 ^ k * 16 ^ e ≡ v * (16 ^ k * 16 ^ e) = grind arith in
    ap (λ n. n * 16 ^ e) is ∙ (d ∙ ap (λ n. v * n) (sym a ∙ c))

pub down-magnitude : (m e k v : ℕ) → e + k ≡ 78 → IsMagnitude m e v → m ≡ v * 16 ^ k
down-magnitude m e k v split h =
    let a : 16 ^ (k + e) ≡ 16 ^ k * 16 ^ e = pow-add 16 k e in
    let b : k + e ≡ 78 = omega (arith, split) in
    let c : 16 ^ (k + e) ≡ 2 ^ 56 * 16 ^ 64 = ap (λ n. 16 ^ n) b in
    let d : v * 16 ^ k * 16 ^ e ≡ v * (16 ^ k * 16 ^ e) = grind arith in
    cancel m (v * 16 ^ k) (16 ^ e) (pow-some e) (h ∙ (ap (λ n. v * n) (sym c ∙ a) ∙ sym d))

-- an exponent of 78 or more
pub magnitude-up : (m e k : ℕ) → e ≡ 78 + k → IsMagnitude m e (m * 16 ^ k)
magnitude-up m e k split =
    let f : e ≡ k + 78 = omega (arith, split) in
    let a : 16 ^ e ≡ 16 ^ k * (2 ^ 56 * 16 ^ 64) = ap (λ n. 16 ^ n) f ∙ pow-add 16 k 78 in
    let shift : (n : ℕ) → m * (16 ^ k * n) ≡ m * 16 ^ k * n = λ n. grind arith in
    ap (λ n. m * n) a ∙ shift (2 ^ 56 * 16 ^ 64)

pub degrees-up : (m e k d : ℕ) → e ≡ 78 + k → d ≡ m * 16 ^ k % 360 → IsDegrees m e d
degrees-up m e k d split is = (m * 16 ^ k, magnitude-up m e k split, sym is)

pub degrees-down : (m e k v : ℕ) → e + k ≡ 78 → m ≡ v * 16 ^ k → IsDegrees m e (v % 360)
degrees-down m e k v split is = (v, magnitude-down m e k v split is, refl)

-- past 78 no mantissa makes 1
pub unit-past : (m e : ℕ) → 78 < e → IsMagnitude m e 1 → ⊥
unit-past m e far h =
    let k : ℕ = e - 79 in
    let f : e ≡ 78 + (k + 1) = omega (arith, far) in
    let up : IsMagnitude m e (m * 16 ^ (k + 1)) = magnitude-up m e (k + 1) f in
    let same : 1 ≡ m * 16 ^ (k + 1) = cancel 1 (m * 16 ^ (k + 1)) (2 ^ 56 * 16 ^ 64) (lit-some) (sym h ∙ up) in
    let g : 16 ^ (k + 1) ≡ 16 ^ k * 16 = pow-add 16 k 1 in
    let j : m * (16 ^ k * 16) ≡ m * 16 ^ k * 16 = grind arith in
    let whole : 1 ≡ m * 16 ^ k * 16 = same ∙ (ap (λ n. m * n) g ∙ j) in
    omega (arith, whole)
  where
    lit-some : 0 < 2 ^ 56 * 16 ^ 64
    lit-some = lit< tt

pub degrees-step : (m i d : ℕ) → d ≡ m * 16 ^ i % 360 → d * 16 % 360 ≡ m * 16 ^ (i + 1) % 360
degrees-step m i d is =
    let e : 16 ^ (i + 1) ≡ 16 ^ i * 16 = pow-add 16 i 1 in
    let f : m * 16 ^ i * 16 ≡ m * (16 ^ i * 16) = grind arith in
    ap (λ n. n * 16 % 360) is ∙ (mul-mod_first (m * 16 ^ i) 16 360 ∙ ap (λ n. n % 360) (f ∙ ap (λ n. m * n) (sym e)))

-- the digits that a mantissa has fit a word
pub pow-fits : (k : ℕ) → k < 14 → 16 ^ k < 2 ^ 64
pow-fits k few =
    let le : k ≤ 13 = omega arith in
    let h : 16 ^ k ≤ 16 ^ 13 = pow-le-pow_right (omega arith) le in
    omega (arith, h)

-- whether the digits make 1
pub unit-down : (m e k : ℕ) → e + k ≡ 78 → (v : ℕ) → m ≡ v * 16 ^ k → IsMagnitude m e 1 → v ≡ 1
unit-down m e k split v is h = cancel v 1 (16 ^ k) (pow-some k) (sym is ∙ down-magnitude m e k 1 split h)

-- mantissa and exponent make one number
pub magnitude-one : (m e v w : ℕ) → IsMagnitude m e v → IsMagnitude m e w → v ≡ w
magnitude-one m e v w h k = cancel v w (2 ^ 56 * 16 ^ 64) (lit< tt) (sym h ∙ k)

-- what an Option without a value says
pub given_none : {A P : Type 0} (r : Option A) → P → IfNone r P
given_none (Some x) h = tt
given_none None h = h
