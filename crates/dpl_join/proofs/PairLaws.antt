-- Pairs that are close, and the strips in which they count.
use Rattle.std.proofs.Common.{◌≡◌, ℕ, zero, suc, ◌/◌, ◌^◌, ◌<◌, ◌≤◌, ap, arith}
use Rattle.std.specs.Prelude.{ℤ, pos, ◌+ℤ◌, ◌-ℤ◌, ◌≤ℤ◌, unsigned_abs}
use Rattle.std.specs.Int.{int_max}
use Rattle.std.proofs.lemmas.Int.{ints, clamps}
use Rattle.std.proofs.lemmas.Nat.{le-div}
use Rattle.std.proofs.Math.Nat.{div-mul-le_self, pow-suc}
use Rattle.dpl_spec_split.specs.declared.Rect.{Rect}
use Rattle.dpl_join.specs.Pairs.{AreClose}
use Rattle.dpl_join.specs.Strips.{strip_of, first_strip, last_strip, common_strip}

high : (n : ℕ) → 0 < 2 ^ n
high zero = omega arith
high (suc n) = let h = high n in let e = pow-suc 2 n in omega (arith, h, e)

div-rise : (m n k : ℕ) → 0 < k → m ≤ n → m / k ≤ n / k
div-rise m n k some l = let d = div-mul-le_self m k in le-div (m / k) n k some (omega (arith, d, l))

-- a higher row is in no lower strip
pub strips-rise : (first : ℤ) (shift : ℕ) (y z : ℤ) → first ≤ℤ y → y ≤ℤ z → strip_of first shift y ≤ strip_of first shift z
strips-rise first shift y z low l = div-rise (unsigned_abs (y -ℤ first)) (unsigned_abs (z -ℤ first)) (2 ^ shift) (high shift) (omega (arith, ints))

max-same : (a b : ℤ) → int_max a b ≡ int_max b a
max-same a b = omega (arith, ints, clamps)

pub close-flip : (rule : ℕ) (a b : Rect) → AreClose rule a b → AreClose rule b a
close-flip rule a b c = record { right = c.left; left = c.right; high = c.low; low = c.high }

pub common-flip : (first : ℤ) (shift : ℕ) (a b : Rect) → common_strip first shift a b ≡ common_strip first shift b a
common-flip first shift a b = ap (strip_of first shift) (max-same a.y0 b.y0)

-- two close rectangles count in a strip in which either stands
pub stands-from : (rule : ℕ) (first : ℤ) (shift : ℕ) (a b : Rect) → first ≤ℤ a.y0 → first_strip first shift a ≤ common_strip first shift a b
stands-from rule first shift a b low = strips-rise first shift a.y0 (int_max a.y0 b.y0) low (omega (arith, ints, clamps))

pub stands-to : (rule : ℕ) (first : ℤ) (shift : ℕ) (a b : Rect) → first ≤ℤ a.y0 → AreClose rule a b → common_strip first shift a b ≤ last_strip first shift rule a
stands-to rule first shift a b low close =
    let h = close.high in
    strips-rise first shift (int_max a.y0 b.y0) (int_max ((a.y1 +ℤ pos rule) -ℤ pos 1) a.y0) (omega (arith, ints, clamps, low)) (omega (arith, ints, clamps, h))
