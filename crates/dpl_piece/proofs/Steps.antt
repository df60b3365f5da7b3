-- Columns that are one apart, and squares that touch.
use Rattle.std.proofs.Common.{◌≡◌, ◌⊎◌, inl, inr, arith}
use Rattle.std.specs.Prelude.{ℤ, pos, ◌+ℤ◌, ◌-ℤ◌, ◌≤ℤ◌, ◌<ℤ◌}
use Rattle.std.proofs.lemmas.Int.{ints, by_lt_z}
use Rattle.dpl_spec_split.specs.Squares.{Touch}
use Rattle.dpl_spec_split.specs.Zones.{at}
use Rattle.dpl_spec_split.proofs.SquareLaws.{Touch-from_close}

pub self : (a : ℤ) → a ≤ℤ a
self a = omega (arith, ints)

pub next-one : (a : ℤ) → a ≤ℤ (a +ℤ pos 1)
next-one a = omega (arith, ints)

pub before-it : (a : ℤ) → (a -ℤ pos 1) <ℤ a
before-it a = omega (arith, ints)

pub back-again : (a : ℤ) → (a -ℤ pos 1) +ℤ pos 1 ≡ a
back-again a = omega (arith, ints)

pub up-to : (a b : ℤ) → a <ℤ b → a ≤ℤ (b -ℤ pos 1)
up-to a b l = omega (arith, ints, l)

pub past-one : (a b : ℤ) → a ≤ℤ (b -ℤ pos 1) → a ≤ℤ b
past-one a b l = omega (arith, ints, l)

pub down-one : (a b : ℤ) → a <ℤ b → (a -ℤ pos 1) <ℤ b
down-one a b l = omega (arith, ints, l)

pub one-less : (a b e : ℤ) → a <ℤ b → b <ℤ e → (a -ℤ pos 1) <ℤ e
one-less a b e l m = omega (arith, ints, l, m)

pub two-more : (a b e : ℤ) → a <ℤ b → b <ℤ e → a ≤ℤ e
two-more a b e l m = omega (arith, ints, l, m)

pub same-before : (a b : ℤ) → a ≡ b → (a -ℤ pos 1) <ℤ b
same-before a b e = omega (arith, ints, e)

pub same-from : (a b : ℤ) → a ≡ b → b ≤ℤ a
same-from a b e = omega (arith, ints, e)

-- what ends past the column before one, and not past that, ends at it
pub ends-at : (a b : ℤ) → (a -ℤ pos 1) <ℤ b → (a <ℤ b → ⊥) → b ≡ a
ends-at a b l none = by_lt_z {P = b ≡ a} a b (λ m. absurd (none m)) (λ m. omega (arith, ints, l, m))

-- what begins at a column or before, and not before it, begins at it
pub begins-at : (a b : ℤ) → a ≤ℤ b → (a <ℤ b → ⊥) → a ≡ b
begins-at a b l none = by_lt_z {P = a ≡ b} a b (λ m. absurd (none m)) (λ m. omega (arith, ints, l, m))

-- squares side by side touch
pub near-left : (a b x y : ℤ) → a ≡ x → b ≡ y → Touch (at (a -ℤ pos 1) b) (at x y)
near-left a b x y e f = Touch-from_close (at (a -ℤ pos 1) b) (at x y) (omega (arith, ints, e)) (omega (arith, ints, e)) (omega (arith, ints, f)) (omega (arith, ints, f))

pub near-right : (a b x y : ℤ) → a ≡ x → b ≡ y → Touch (at a b) (at (x -ℤ pos 1) y)
near-right a b x y e f = Touch-from_close (at a b) (at (x -ℤ pos 1) y) (omega (arith, ints, e)) (omega (arith, ints, e)) (omega (arith, ints, f)) (omega (arith, ints, f))

pub near-below : (a b x y : ℤ) → a ≡ x → b ≡ y → Touch (at a (b -ℤ pos 1)) (at x y)
near-below a b x y e f = Touch-from_close (at a (b -ℤ pos 1)) (at x y) (omega (arith, ints, e)) (omega (arith, ints, e)) (omega (arith, ints, f)) (omega (arith, ints, f))

pub near-above : (a b x y : ℤ) → a ≡ x → b ≡ y → Touch (at a b) (at x (y -ℤ pos 1))
near-above a b x y e f = Touch-from_close (at a b) (at x (y -ℤ pos 1)) (omega (arith, ints, e)) (omega (arith, ints, e)) (omega (arith, ints, f)) (omega (arith, ints, f))

-- and so do squares at a corner
pub touch-lower_left : (x y : ℤ) → Touch (at (x -ℤ pos 1) (y -ℤ pos 1)) (at x y)
touch-lower_left x y =
    Touch-from_close (at (x -ℤ pos 1) (y -ℤ pos 1)) (at x y) (omega (arith, ints)) (omega (arith, ints)) (omega (arith, ints)) (omega (arith, ints))

pub touch-lower_right : (x y : ℤ) → Touch (at x (y -ℤ pos 1)) (at (x -ℤ pos 1) y)
touch-lower_right x y =
    Touch-from_close (at x (y -ℤ pos 1)) (at (x -ℤ pos 1) y) (omega (arith, ints)) (omega (arith, ints)) (omega (arith, ints)) (omega (arith, ints))

pub touch-upper_left : (x y : ℤ) → Touch (at (x -ℤ pos 1) y) (at x (y -ℤ pos 1))
touch-upper_left x y =
    Touch-from_close (at (x -ℤ pos 1) y) (at x (y -ℤ pos 1)) (omega (arith, ints)) (omega (arith, ints)) (omega (arith, ints)) (omega (arith, ints))

-- a column right beside those from a to b
module _ (x a b : ℤ) (side : (x +ℤ pos 1 ≡ a) ⊎ (x ≡ b)) where
  pub beside-from : a <ℤ b → a ≤ℤ (x +ℤ pos 1)
  beside-from l = elim side [ inl e ↦ omega (arith, ints, e) | inr e ↦ omega (arith, ints, e, l) ]

  pub beside-to : a <ℤ b → x ≤ℤ b
  beside-to l = elim side [ inl e ↦ omega (arith, ints, e, l) | inr e ↦ omega (arith, ints, e) ]

  pub not-beside : a ≤ℤ x → x <ℤ b → ⊥
  not-beside l m = elim side [ inl e ↦ omega (arith, ints, e, l) | inr e ↦ omega (arith, ints, e, m) ]

  -- one of those is next to it
  pub next-to : a <ℤ b → (q : ℤ) × (a ≤ℤ q) × (q <ℤ b) × (q ≤ℤ (x +ℤ pos 1)) × (x ≤ℤ (q +ℤ pos 1))
  next-to l = elim side [
    | inl e ↦ (a, self a, l, omega (arith, ints, e), omega (arith, ints, e))
    | inr e ↦ (b -ℤ pos 1, up-to a b l, before-it b, omega (arith, ints, e), omega (arith, ints, e))
  ]
