-- Whether slabs touch, by their sides.
use Rattle.std.proofs.Common.{◌≡◌, ◌⊎◌, inl, inr, ℤ, pos, ◌+ℤ◌, ◌-ℤ◌, ◌≤ℤ◌, ◌<ℤ◌, true, refl, arith}
use Rattle.std.specs.Prelude.{◌&&◌, int_le, int_lt}
use Rattle.std.specs.Int.{int_max}
use Rattle.std.proofs.lemmas.Int.{ints, clamps}
use Rattle.std.proofs.lemmas.Bool.{and_parts, and_from, or_cases, or_left, or_right}
use Rattle.dpl_spec_split.specs.declared.Pt.{Pt}
use Rattle.dpl_spec_split.specs.declared.Rect.{Rect}
use Rattle.dpl_spec_split.specs.Squares.{AreTouching, Has, Touch}
use Rattle.dpl_spec_split.specs.Slabs.{IsSolid}
use Rattle.dpl_spec_split.specs.Zones.{at}
use Rattle.dpl_spec_split.proofs.SquareLaws.{Touch-from_close}
use Rattle.dpl_spec_split.proofs.ZoneLaws.{close-from_touch}
use Rattle.dpl_edges.specs.InCells.{in_cell}
use Rattle.dpl_edges.proofs.Windows.{clip-squares}
use Rattle.dpl_wide.specs.Sheets.{clipped, has_square, lie_close, touch_in, touches_from}

le-yes : (a b : ℤ) → int_le a b ≡ true → a ≤ℤ b
le-yes a b h = grind (arith, ints)

lt-yes : (a b : ℤ) → int_lt a b ≡ true → a <ℤ b
lt-yes a b h = grind (arith, ints)

yes-le : (a b : ℤ) → a ≤ℤ b → int_le a b ≡ true
yes-le a b h = grind (arith, ints)

yes-lt : (a b : ℤ) → a <ℤ b → int_lt a b ≡ true
yes-lt a b h = grind (arith, ints)

-- columns of two spans that share an end, or overlap, that are at most one apart
record AreBeside (a0 a1 b0 b1 : ℤ) : Type 0 where
  i : ℤ
  j : ℤ
  i_from : a0 ≤ℤ i
  i_below : i <ℤ a1
  j_from : b0 ≤ℤ j
  j_below : j <ℤ b1
  left : j ≤ℤ (i +ℤ pos 1)
  right : i ≤ℤ (j +ℤ pos 1)

beside : (a0 a1 b0 b1 i j : ℤ) → a0 <ℤ a1 → b0 <ℤ b1 → b0 ≤ℤ a1 → a0 ≤ℤ b1 → i ≡ int_max a0 (b0 -ℤ pos 1) → j ≡ int_max b0 (a0 -ℤ pos 1) → AreBeside a0 a1 b0 b1
beside a0 a1 b0 b1 i j a b l r i_is j_is = record {
  i = i;
  j = j;
  i_from = omega (arith, ints, clamps, i_is);
  i_below = omega (arith, ints, clamps, i_is, a, l);
  j_from = omega (arith, ints, clamps, j_is);
  j_below = omega (arith, ints, clamps, j_is, b, r);
  left = omega (arith, ints, clamps, i_is, j_is);
  right = omega (arith, ints, clamps, i_is, j_is);
}

-- rectangles that overlap or share an end in rows and in columns have squares that touch
pub close-touch : (r s : Rect) → IsSolid r → IsSolid s → s.x0 ≤ℤ r.x1 → r.x0 ≤ℤ s.x1 → s.y0 ≤ℤ r.y1 → r.y0 ≤ℤ s.y1 → AreTouching (Has r) (Has s)
close-touch r s r_solid s_solid left right low high =
    let x = beside r.x0 r.x1 s.x0 s.x1 _ _ r_solid.wide s_solid.wide left right refl refl in
    let y = beside r.y0 r.y1 s.y0 s.y1 _ _ r_solid.tall s_solid.tall low high refl refl in (
      at x.i y.i,
      at x.j y.j,
      record { left = x.i_from; right = x.i_below; low = y.i_from; high = y.i_below },
      record { left = x.j_from; right = x.j_below; low = y.j_from; high = y.j_below },
      Touch-from_close (at x.i y.i) (at x.j y.j) x.left x.right y.left y.right,
    )

clip-has : (cell r : Rect) (p : Pt) → Has (clipped cell r) p → in_cell cell (Has r) p
clip-has cell r p h = (clip-squares r cell _ _ _ _ refl refl refl refl p).0 h

has-clip : (cell r : Rect) (p : Pt) → in_cell cell (Has r) p → Has (clipped cell r) p
has-clip cell r p h = (clip-squares r cell _ _ _ _ refl refl refl refl p).1 h

solid-yes : (r : Rect) → has_square r ≡ true → IsSolid r
solid-yes r h = let (wide, tall) = and_parts (int_lt r.x0 r.x1) (int_lt r.y0 r.y1) h in record { wide = lt-yes r.x0 r.x1 wide; tall = lt-yes r.y0 r.y1 tall }

yes-solid : (r : Rect) (p : Pt) → Has r p → has_square r ≡ true
yes-solid r p h =
    let a = h.left in
    let b = h.right in
    let c = h.low in
    let d = h.high in
    and_from (int_lt r.x0 r.x1) (int_lt r.y0 r.y1) (yes-lt r.x0 r.x1 (omega (arith, ints, a, b))) (yes-lt r.y0 r.y1 (omega (arith, ints, c, d)))

touch-yes : (r s : Rect) → IsSolid r → IsSolid s → lie_close r s ≡ true → AreTouching (Has r) (Has s)
touch-yes r s r_solid s_solid h =
    let (x, y) = and_parts (int_le r.x0 s.x1 && int_le s.x0 r.x1) (int_le r.y0 s.y1 && int_le s.y0 r.y1) h in
    let (right, left) = and_parts (int_le r.x0 s.x1) (int_le s.x0 r.x1) x in
    let (high, low) = and_parts (int_le r.y0 s.y1) (int_le s.y0 r.y1) y in
    close-touch r s r_solid s_solid (le-yes s.x0 r.x1 left) (le-yes r.x0 s.x1 right) (le-yes s.y0 r.y1 low) (le-yes r.y0 s.y1 high)

yes-touch : (r s : Rect) (p q : Pt) → Has r p → Has s q → Touch p q → lie_close r s ≡ true
yes-touch r s p q in_r in_s touch =
    let close = close-from_touch p q touch in
    let a = in_r.left in
    let b = in_r.right in
    let c = in_r.low in
    let d = in_r.high in
    let e = in_s.left in
    let f = in_s.right in
    let g = in_s.low in
    let h = in_s.high in
    let cl = close.left in
    let cr = close.right in
    let cd = close.low in
    let cu = close.high in
    and_from (int_le r.x0 s.x1 && int_le s.x0 r.x1) (int_le r.y0 s.y1 && int_le s.y0 r.y1)
    (and_from (int_le r.x0 s.x1) (int_le s.x0 r.x1) (yes-le r.x0 s.x1 (omega (arith, ints, a, f, cr))) (yes-le s.x0 r.x1 (omega (arith, ints, e, b, cl))))
    (and_from (int_le r.y0 s.y1) (int_le s.y0 r.y1) (yes-le r.y0 s.y1 (omega (arith, ints, c, h, cu))) (yes-le s.y0 r.y1 (omega (arith, ints, g, d, cd))))

from-yes : (cell r s : Rect) → IsSolid s → touches_from cell r s ≡ true → AreTouching (in_cell cell (Has r)) (Has s)
from-yes cell r s s_solid h =
    let (some, close) = and_parts (has_square (clipped cell r)) (lie_close (clipped cell r) s) h in
    let (p, q, in_r, in_s, touch) = touch-yes (clipped cell r) s (solid-yes (clipped cell r) some) s_solid close in
    (p, q, clip-has cell r p in_r, in_s, touch)

yes-from : (cell r s : Rect) → AreTouching (in_cell cell (Has r)) (Has s) → touches_from cell r s ≡ true
yes-from cell r s (p, q, in_r, in_s, touch) =
    let here = has-clip cell r p in_r in
    and_from (has_square (clipped cell r)) (lie_close (clipped cell r) s) (yes-solid (clipped cell r) p here) (yes-touch (clipped cell r) s p q here in_s touch)

-- a square of one in the cell touches one of the other
abbrev pub TouchIn : Rect → Rect → Rect → Type 0
TouchIn cell r s = AreTouching (in_cell cell (Has r)) (Has s) ⊎ AreTouching (in_cell cell (Has s)) (Has r)

pub in-yes : (cell r s : Rect) → IsSolid r → IsSolid s → touch_in cell r s ≡ true → TouchIn cell r s
in-yes cell r s r_solid s_solid h = elim (or_cases (touches_from cell r s) (touches_from cell s r) h) [
  | inl first ↦ inl (from-yes cell r s s_solid first)
  | inr second ↦ inr (from-yes cell s r r_solid second)
]

pub yes-in : (cell r s : Rect) → TouchIn cell r s → touch_in cell r s ≡ true
yes-in cell r s (inl first) = or_left (touches_from cell r s) (touches_from cell s r) (yes-from cell r s first)
yes-in cell r s (inr second) = or_right (touches_from cell r s) (touches_from cell s r) (yes-from cell s r second)
