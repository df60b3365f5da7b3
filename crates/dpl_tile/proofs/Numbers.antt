-- Rows and columns of cells.
use Rattle.std.proofs.Common.{◌≡◌, ℕ, ◌+◌, ◌*◌, ◌/◌, ◌<◌, ◌≤◌, inl, inr, subst, arith, rules, w32, w64}
use mir.Val.{to_z, of_z, Fits}
use lib.Dec.{T}
use lib.Signed.{non_neg}
use borrow.Author.Rules.{sfits_of}
use Rattle.std.specs.Int.RustNames.{FitsSigned}
use Rattle.std.specs.Prelude.{ℤ, pos, ◌+ℤ◌, ◌-ℤ◌, ◌≤ℤ◌, ◌<ℤ◌, unsigned_abs}
use Rattle.std.proofs.Math.Nat.{le-div_iff_mul-le, div-mul-le_self, lt-div-mul-add}
use Rattle.std.proofs.lemmas.Nat.{mul-le, div_below}
use Rattle.std.proofs.lemmas.Bool.{cases_lt}
use Rattle.std.proofs.lemmas.Int.{ints, to_z-of_z, fits_signed_from_abs}
use Rattle.dpl_spec_split.specs.Loops.{farthest}
use Rattle.dpl_tile.specs.Tiles.{number_in}

div_le : (s a b : ℕ) → 1 ≤ s → a ≤ b → a / s ≤ b / s
div_le s a b some l = (le-div_iff_mul-le {k = s} {x = a / s} {y = b} (omega (arith, some))).1 (let h = div-mul-le_self a s in omega (arith, h, l))

-- n is the quotient where n times s is a or at most s - 1 below it
div_is : (s a n : ℕ) → 1 ≤ s → n * s ≤ a → a < n * s + s → a / s ≡ n
div_is s a n some low high =
    let below : n ≤ a / s = (le-div_iff_mul-le {k = s} {x = n} {y = a} (omega (arith, some))).1 low in
    let h : a / s * s ≤ a = div-mul-le_self a s in
    elim (cases_lt n (a / s)) [
      | inl l ↦ absurd (let m : (n + 1) * s ≤ a / s * s = mul-le (n + 1) s (a / s) s (omega (arith, l)) (omega arith) in
          let e : (n + 1) * s ≡ n * s + s = grind arith in omega (arith, m, e, h, high))
      | inr l ↦ omega (arith, l, below)
    ]

pub number-le : (side : ℕ) (low i j : ℤ) → 1 ≤ side → low ≤ℤ i → i ≤ℤ j → number_in side low i ≤ number_in side low j
number-le side low i j some from on = div_le side (unsigned_abs (i -ℤ low)) (unsigned_abs (j -ℤ low)) some (omega (arith, ints, from, on))

-- the squares of row or column n of cells
pub record InCells (side : ℕ) (low : ℤ) (n : ℕ) (i : ℤ) : Type 0 where
  pub from : (low +ℤ pos (n * side)) ≤ℤ i
  pub below : i <ℤ (low +ℤ pos (n * side + side))

pub number-in : (side : ℕ) (low i : ℤ) → 1 ≤ side → low ≤ℤ i → InCells side low (number_in side low i) i
number-in side low i some from =
    let a = div-mul-le_self (unsigned_abs (i -ℤ low)) side in
    let b = lt-div-mul-add {a = unsigned_abs (i -ℤ low)} {b = side} (omega (arith, some)) in
    record { from = omega (arith, ints, from, a); below = omega (arith, ints, from, b) }

pub number-is : (side : ℕ) (low i : ℤ) (n : ℕ) → 1 ≤ side → InCells side low n i → number_in side low i ≡ n
number-is side low i n some h =
    let a = h.from in
    let b = h.below in
    div_is side (unsigned_abs (i -ℤ low)) n some (omega (arith, ints, a)) (omega (arith, ints, a, b))

-- a span of squares has one in row or column n of cells where n lies between the numbers of its ends
pub span-met : (side : ℕ) (low a b : ℤ) (n : ℕ) → 1 ≤ side → low ≤ℤ a → a <ℤ b → number_in side low a ≤ n
    → n ≤ number_in side low (b -ℤ pos 1) → (i : ℤ) × (a ≤ℤ i) × (i <ℤ b) × InCells side low n i
span-met side low a b n some from wide l m =
    let first = number-in side low a some from in
    let last = number-in side low (b -ℤ pos 1) some (omega (arith, ints, from, wide)) in
    let p = last.from in
    let q = first.below in
    let u : n * side ≤ number_in side low (b -ℤ pos 1) * side = mul-le n side (number_in side low (b -ℤ pos 1)) side m (omega arith) in
    let v : number_in side low a * side ≤ n * side = mul-le (number_in side low a) side n side l (omega arith) in
    elim (cases_lt (n * side) (unsigned_abs (a -ℤ low))) [
      | inl h ↦ (a, omega (arith, ints), wide, record { from = omega (arith, ints, h, from); below = omega (arith, ints, q, v) })
      | inr h ↦ (low +ℤ pos (n * side), omega (arith, ints, h, from), omega (arith, ints, p, u), record { from = omega (arith, ints); below = omega (arith, ints, some) })
    ]

pub met-from_span : (side : ℕ) (low a b i : ℤ) (n : ℕ) → 1 ≤ side → low ≤ℤ a → a ≤ℤ i → i <ℤ b → InCells side low n i
    → (number_in side low a ≤ n) × (n ≤ number_in side low (b -ℤ pos 1))
met-from_span side low a b i n some from l m h =
    let is : number_in side low i ≡ n = number-is side low i n some h in
    let p = number-le side low a i some from l in
    let q = number-le side low i (b -ℤ pos 1) some (omega (arith, ints, from, l)) (omega (arith, ints, m)) in
    (omega (arith, is, p), omega (arith, is, q))

pub number-as : (side n : ℕ) (a b c d : ℤ) → n ≡ number_in side a b → a ≡ c → b ≡ d → n ≡ number_in side c d
number-as side n a b c d h l r = subst (λ u. n ≡ number_in side u d) l (subst (λ u. n ≡ number_in side a u) r h)

-- a coordinate of a rectangle is the same in 64 bits, and the one before it fits them
pub same-wide : (i : ℤ) → FitsSigned w32 i → to_z w64 (of_z w64 (to_z w32 (of_z w32 i))) ≡ i
same-wide i f = rw (to_z-of_z w32 i f) (to_z-of_z w64 i (sfits_of (let l = f.sfits in omega (arith, ints, l))))

pub wide-fits : (i : ℤ) → FitsSigned w32 i → FitsSigned w64 (to_z w32 (of_z w32 i))
wide-fits i f = rw (to_z-of_z w32 i f) (sfits_of (let l = f.sfits in omega (arith, ints, l)))

-- how far a coordinate is from one that isn't above it, in 64 bits
pub far-fits : (i : ℤ) → unsigned_abs i ≤ farthest → FitsSigned w64 i
far-fits i l = fits_signed_from_abs w64 i (omega (arith, l))

pub far-same : (i : ℤ) → unsigned_abs i ≤ farthest → to_z w64 (of_z w64 i) ≡ i
far-same i l = to_z-of_z w64 i (far-fits i l)

from-fits : (low i : ℤ) → low ≤ℤ i → unsigned_abs low ≤ farthest → unsigned_abs i ≤ farthest → FitsSigned w64 (i -ℤ low)
from-fits low i from l h = fits_signed_from_abs w64 (i -ℤ low) (omega (arith, ints, from, l, h))

pub ahead-fits : (low i : ℤ) → low ≤ℤ i → unsigned_abs low ≤ farthest → unsigned_abs i ≤ farthest
    → FitsSigned w64 (to_z w64 (of_z w64 i) -ℤ to_z w64 (of_z w64 low))
ahead-fits low i from l h = rw (far-same i h, far-same low l) (from-fits low i from l h)

pub ahead-same : (low i : ℤ) → low ≤ℤ i → unsigned_abs low ≤ farthest → unsigned_abs i ≤ farthest
    → to_z w64 (of_z w64 (to_z w64 (of_z w64 i) -ℤ to_z w64 (of_z w64 low))) ≡ i -ℤ low
ahead-same low i from l h = rw (far-same i h, far-same low l) (to_z-of_z w64 (i -ℤ low) (from-fits low i from l h))

from-casts : (low i : ℤ) → low ≤ℤ i → unsigned_abs low ≤ farthest → unsigned_abs i ≤ farthest → T (non_neg (i -ℤ low)) × Fits w64 (unsigned_abs (i -ℤ low))
from-casts low i from l h = search (ints, rules)

pub ahead-casts : (low i : ℤ) → low ≤ℤ i → unsigned_abs low ≤ farthest → unsigned_abs i ≤ farthest
    → (let z = to_z w64 (of_z w64 (to_z w64 (of_z w64 i) -ℤ to_z w64 (of_z w64 low))) in T (non_neg z) × Fits w64 (unsigned_abs z))
ahead-casts low i from l h = rw (ahead-same low i from l h) (from-casts low i from l h)

none-ahead : (side : ℕ) (low i : ℤ) → unsigned_abs (i -ℤ low) < side → 0 ≡ number_in side low i
none-ahead side low i l = let b = div_below (unsigned_abs (i -ℤ low)) side 1 (omega (arith, l)) (omega (arith, l)) in omega (arith, b)

pub number-none : (side : ℕ) (low i : ℤ) → low ≤ℤ i → unsigned_abs low ≤ farthest → unsigned_abs i ≤ farthest
    → unsigned_abs (to_z w64 (of_z w64 (to_z w64 (of_z w64 i) -ℤ to_z w64 (of_z w64 low)))) < side → 0 ≡ number_in side low i
number-none side low i from l h m = none-ahead side low i (rw (ahead-same low i from l h) at m)

number-short : (side : ℕ) (low i : ℤ) → low ≤ℤ i → unsigned_abs low ≤ farthest → unsigned_abs i ≤ farthest → number_in side low i ≤ 2000000000
number-short side low i from l h =
    let d : unsigned_abs (i -ℤ low) ≤ 2000000000 = omega (arith, ints, from, l, h) in
    omega (arith, d)

number-fits : (side : ℕ) (low i : ℤ) → low ≤ℤ i → unsigned_abs low ≤ farthest → unsigned_abs i ≤ farthest → Fits w32 (number_in side low i)
number-fits side low i from l h = let s = number-short side low i from l h in record { fits = omega (arith, s) }

-- the same of the number as it is worked out
pub number-cast : (side : ℕ) (low i : ℤ) → low ≤ℤ i → unsigned_abs low ≤ farthest → unsigned_abs i ≤ farthest
    → Fits w32 (unsigned_abs (to_z w64 (of_z w64 (to_z w64 (of_z w64 i) -ℤ to_z w64 (of_z w64 low)))) / side)
number-cast side low i from l h = rw (ahead-same low i from l h) (number-fits side low i from l h)

pub number-small : (side : ℕ) (low i : ℤ) → low ≤ℤ i → unsigned_abs low ≤ farthest → unsigned_abs i ≤ farthest
    → unsigned_abs (to_z w64 (of_z w64 (to_z w64 (of_z w64 i) -ℤ to_z w64 (of_z w64 low)))) / side ≤ 2000000000
number-small side low i from l h = rw (ahead-same low i from l h) (number-short side low i from l h)

pub number-value : (side : ℕ) (low i : ℤ) → low ≤ℤ i → unsigned_abs low ≤ farthest → unsigned_abs i ≤ farthest
    → unsigned_abs (to_z w64 (of_z w64 (to_z w64 (of_z w64 i) -ℤ to_z w64 (of_z w64 low)))) / side ≡ number_in side low i
number-value side low i from l h = rw (ahead-same low i from l h)

pub short-fits : (i : ℤ) → unsigned_abs i ≤ farthest → FitsSigned w32 i
short-fits i l = fits_signed_from_abs w32 i (omega (arith, l))

pub short-same : (i : ℤ) → unsigned_abs i ≤ farthest → to_z w32 (of_z w32 i) ≡ i
short-same i l = to_z-of_z w32 i (short-fits i l)

before-short : (i : ℤ) → FitsSigned w32 i → FitsSigned w64 (i -ℤ pos 1)
before-short i f = search (rules, ints)

pub before-fits : (i : ℤ) → FitsSigned w32 i → FitsSigned w64 (to_z w64 (of_z w64 (to_z w32 (of_z w32 i))) -ℤ pos 1)
before-fits i f = rw (same-wide i f) (before-short i f)

pub before-wide : (i : ℤ) → FitsSigned w32 i → to_z w64 (of_z w64 (to_z w64 (of_z w64 (to_z w32 (of_z w32 i))) -ℤ pos 1)) ≡ i -ℤ pos 1
before-wide i f = rw (same-wide i f) (to_z-of_z w64 (i -ℤ pos 1) (before-short i f))
