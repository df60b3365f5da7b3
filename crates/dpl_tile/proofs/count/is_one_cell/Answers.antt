use Rattle.std.proofs.Common.{◌≡◌, ℕ, ◌+◌, ◌*◌, ◌<◌, ◌≤◌, arith, refl, w32, w64}
use Rattle.std.specs.Prelude.{ℤ, pos, ◌+ℤ◌, ◌-ℤ◌, ◌≤ℤ◌, ◌<ℤ◌, unsigned_abs}
use mir.Val.{to_z, of_z, Fits}
use lib.Dec.{T}
use lib.Signed.{non_neg}
use Rattle.std.specs.Int.RustNames.{FitsSigned}
use Rattle.std.proofs.lemmas.Int.{ints}
use Rattle.std.proofs.lemmas.Bool.{false≢true}
use Rattle.dpl_spec_split.specs.Loops.{farthest}
use Rattle.dpl_tile.proofs.Numbers.{far-fits, ahead-fits, ahead-same, ahead-casts, short-same}
use Rattle.dpl_tile.proofs.count.is_one_cell.Goals as goal

wide-fits : (low i : ℤ) → low ≤ℤ i → unsigned_abs low ≤ farthest → unsigned_abs i ≤ farthest
    → FitsSigned w64 (to_z w64 (of_z w64 (to_z w32 (of_z w32 i))) -ℤ to_z w64 (of_z w64 low))
wide-fits low i from l h = rw (short-same i h) (ahead-fits low i from l h)

wide-same : (low i : ℤ) → low ≤ℤ i → unsigned_abs low ≤ farthest → unsigned_abs i ≤ farthest
    → to_z w64 (of_z w64 (to_z w64 (of_z w64 (to_z w32 (of_z w32 i))) -ℤ to_z w64 (of_z w64 low))) ≡ i -ℤ low
wide-same low i from l h = rw (short-same i h) (ahead-same low i from l h)

wide-casts : (low i : ℤ) → low ≤ℤ i → unsigned_abs low ≤ farthest → unsigned_abs i ≤ farthest
    → (let z = to_z w64 (of_z w64 (to_z w64 (of_z w64 (to_z w32 (of_z w32 i))) -ℤ to_z w64 (of_z w64 low))) in T (non_neg z) × Fits w64 (unsigned_abs z))
wide-casts low i from l h = rw (short-same i h) (ahead-casts low i from l h)

right-of : (a b i : ℤ) → a ≤ℤ b → b <ℤ i → a ≤ℤ i
right-of a b i l m = omega (arith, ints, l, m)

-- one coordinate of the first cell
no-cell : (low i : ℤ) (side : ℕ) → low ≤ℤ i → side < unsigned_abs (i -ℤ low) → i ≤ℤ (low +ℤ pos (0 * side + side)) → ⊥
no-cell low i side from l m = omega (arith, ints, from, l, m)

short-side : (low i : ℤ) (side : ℕ) → unsigned_abs low ≤ farthest → unsigned_abs i ≤ farthest → side < unsigned_abs (i -ℤ low) → side ≤ 2147483648
short-side low i side l h m = omega (arith, ints, l, h, m)

from-first : (low i : ℤ) (side : ℕ) → low ≤ℤ i → (low +ℤ pos (0 * side)) ≤ℤ i
from-first low i side from = omega (arith, ints, from)

in-first : (low i : ℤ) (side : ℕ) → low ≤ℤ i → unsigned_abs (i -ℤ low) ≤ side → i ≤ℤ (low +ℤ pos (0 * side + side))
in-first low i side from l = omega (arith, ints, from, l)

pub overflow_cast-bounds : goal.overflow_cast-bounds
overflow_cast-bounds c = rw (short-same c.args.bounds.now.x1 c.requires.over.solid.right) (far-fits c.args.bounds.now.x1 c.requires.over.solid.right)

pub overflow_sub-bounds : goal.overflow_sub-bounds
overflow_sub-bounds c = wide-fits c.args.grid.now.x c.args.bounds.now.x1 (right-of _ _ _ c.requires.over.right c.requires.over.solid.wide) c.requires.sound.left c.requires.over.solid.right

pub overflow_cast-bounds-2 : goal.overflow_cast-bounds-2
overflow_cast-bounds-2 c = wide-casts c.args.grid.now.x c.args.bounds.now.x1 (right-of _ _ _ c.requires.over.right c.requires.over.solid.wide)
    c.requires.sound.left c.requires.over.solid.right

pub overflow_cast-bounds-3 : goal.overflow_cast-bounds-3
overflow_cast-bounds-3 c = rw (short-same c.args.bounds.now.y1 c.requires.over.solid.high) (far-fits c.args.bounds.now.y1 c.requires.over.solid.high)

pub overflow_sub-bounds-2 : goal.overflow_sub-bounds-2
overflow_sub-bounds-2 c = wide-fits c.args.grid.now.y c.args.bounds.now.y1 (right-of _ _ _ c.requires.over.up c.requires.over.solid.tall)
    c.requires.sound.low c.requires.over.solid.high

pub overflow_cast-bounds-4 : goal.overflow_cast-bounds-4
overflow_cast-bounds-4 c = wide-casts c.args.grid.now.y c.args.bounds.now.y1 (right-of _ _ _ c.requires.over.up c.requires.over.solid.tall)
    c.requires.sound.low c.requires.over.solid.high

pub returns-then-bounds-grid-clause-one : goal.returns-then-bounds-grid-clause-one
returns-then-bounds-grid-clause-one c =
    let from = right-of _ _ _ c.requires.over.right c.requires.over.solid.wide in
    let t = rw (wide-same c.args.grid.now.x c.args.bounds.now.x1 from c.requires.sound.left c.requires.over.solid.right) at c.if-bounds-grid.true in
    (λ q. absurd (false≢true q), λ lies. absurd (no-cell c.args.grid.now.x c.args.bounds.now.x1 c.args.grid.now.side from t lies.right))

pub returns-then-bounds-grid-clause-short : goal.returns-then-bounds-grid-clause-short
returns-then-bounds-grid-clause-short c =
    let from = right-of _ _ _ c.requires.over.right c.requires.over.solid.wide in
    let t = rw (wide-same c.args.grid.now.x c.args.bounds.now.x1 from c.requires.sound.left c.requires.over.solid.right) at c.if-bounds-grid.true in
    λ q. short-side c.args.grid.now.x c.args.bounds.now.x1 c.args.grid.now.side c.requires.sound.left c.requires.over.solid.right t

pub returns-then-bounds-grid-2-clause-one : goal.returns-then-bounds-grid-2-clause-one
returns-then-bounds-grid-2-clause-one c =
    let from = right-of _ _ _ c.requires.over.up c.requires.over.solid.tall in
    let t = rw (wide-same c.args.grid.now.y c.args.bounds.now.y1 from c.requires.sound.low c.requires.over.solid.high) at c.if-bounds-grid-2.true in
    (λ q. absurd (false≢true q), λ lies. absurd (no-cell c.args.grid.now.y c.args.bounds.now.y1 c.args.grid.now.side from t lies.high))

pub returns-then-bounds-grid-2-clause-short : goal.returns-then-bounds-grid-2-clause-short
returns-then-bounds-grid-2-clause-short c =
    let from = right-of _ _ _ c.requires.over.up c.requires.over.solid.tall in
    let t = rw (wide-same c.args.grid.now.y c.args.bounds.now.y1 from c.requires.sound.low c.requires.over.solid.high) at c.if-bounds-grid-2.true in
    λ q. short-side c.args.grid.now.y c.args.bounds.now.y1 c.args.grid.now.side c.requires.sound.low c.requires.over.solid.high t

pub returns-clause-one : goal.returns-clause-one
returns-clause-one c =
    let right = right-of _ _ _ c.requires.over.right c.requires.over.solid.wide in
    let up = right-of _ _ _ c.requires.over.up c.requires.over.solid.tall in
    let t = rw (wide-same c.args.grid.now.x c.args.bounds.now.x1 right c.requires.sound.left c.requires.over.solid.right) at c.if-bounds-grid.false in
    let h = rw (wide-same c.args.grid.now.y c.args.bounds.now.y1 up c.requires.sound.low c.requires.over.solid.high) at c.if-bounds-grid-2.false in (
      λ q. record {
        left = from-first _ _ _ c.requires.over.right;
        right = in-first _ _ _ right t;
        low = from-first _ _ _ c.requires.over.up;
        high = in-first _ _ _ up h;
      },
      λ lies. refl,
    )
