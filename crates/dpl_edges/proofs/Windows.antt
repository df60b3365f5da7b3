-- What a rectangle and a cell have in common.
use Rattle.std.proofs.Common.{ℕ, ◌<◌, ◌≤◌, List, [], get_or, length, subst, arith, w32, w64}
use mir.Val.{to_z, of_z}
use borrow.Author.Rules.{sfits_of}
use Rattle.std.specs.Prelude.{◌≡◌, ◌↔◌, ℤ, ◌+ℤ◌, ◌-ℤ◌, pos, ◌≤ℤ◌, ◌<ℤ◌, unsigned_abs}
use Rattle.std.specs.Int.{int_min, int_max}
use Rattle.std.specs.Int.RustNames.{FitsSigned}
use Rattle.std.specs.List.{Contains}
use Rattle.std.proofs.lemmas.Int.{ints, clamps, fits_signed_from_abs, to_z-of_z}
use Rattle.dpl_spec_split.specs.declared.Pt.{Pt}
use Rattle.dpl_spec_split.specs.declared.Rect.{Rect}
use Rattle.dpl_spec_split.specs.Squares.{Has, IsSolidWithin}
use Rattle.dpl_spec_split.specs.Slabs.{IsSolid, IsCanonical}
use Rattle.dpl_spec_split.specs.Loops.{farthest, AreRectsWithin, IsRectWithin}
use Rattle.dpl_slabs.specs.Parts.{AreParts}
use Rattle.dpl_tile.proofs.Numbers.{same-wide}
use Rattle.dpl_edges.specs.InCells.{in_cell}
use Rattle.dpl_edges.specs.Meetings.{HaveCommon}

-- rectangles with a square in common
pub common-from : (cell r : Rect) (p : Pt) → Has cell p → Has r p → HaveCommon cell r
common-from cell r p in_cell in_r =
    let a = in_cell.left in
    let b = in_cell.right in
    let c = in_cell.low in
    let d = in_cell.high in
    let e = in_r.left in
    let f = in_r.right in
    let g = in_r.low in
    let h = in_r.high in
    record { left = omega (arith, ints, a, f); right = omega (arith, ints, e, b); low = omega (arith, ints, c, h); high = omega (arith, ints, g, d) }

pub slab-within : (parts : List (List Rect)) (k : ℕ) (r : Rect) → AreParts parts → k < length parts → Contains (get_or parts k []) r → IsSolidWithin farthest r
slab-within parts k r h k_in c =
    let canonical : IsCanonical (get_or parts k []) = h.canonical k [] k_in in
    let within : AreRectsWithin farthest (get_or parts k []) = h.within k [] k_in in
    let (m, m_in, is) = c in
    let solid : IsSolid r = subst (λ u. IsSolid u) is (canonical.solid m r m_in) in
    let w : IsRectWithin farthest r = within r c in
    record { wide = solid.wide; tall = solid.tall; left = w.left; right = w.right; low = w.low; high = w.high }

record IsGreater (a b n : ℤ) : Type 0 where
  pub first : a ≤ℤ n
  pub second : b ≤ℤ n
  pub least : (i : ℤ) → a ≤ℤ i → b ≤ℤ i → n ≤ℤ i

greater-of : (a b n : ℤ) → n ≡ int_max a b → IsGreater a b n
greater-of a b n e = record {
  first = omega (arith, ints, clamps, e);
  second = omega (arith, ints, clamps, e);
  least = λ i h k. omega (arith, ints, clamps, e, h, k);
}

record IsSmaller (a b n : ℤ) : Type 0 where
  pub first : n ≤ℤ a
  pub second : n ≤ℤ b
  pub greatest : (i : ℤ) → i ≤ℤ a → i ≤ℤ b → i ≤ℤ n

smaller-of : (a b n : ℤ) → n ≡ int_min a b → IsSmaller a b n
smaller-of a b n e = record {
  first = omega (arith, ints, clamps, e);
  second = omega (arith, ints, clamps, e);
  greatest = λ i h k. omega (arith, ints, clamps, e, h, k);
}

-- a side of what a rectangle and a cell have in common, as a number of 64 bits, lies between two of the rectangle's, and so it fits 32
fits-between : (a n b : ℤ) → unsigned_abs a ≤ farthest → unsigned_abs b ≤ farthest → a ≤ℤ n → n ≤ℤ b → FitsSigned w32 n
fits-between a n b p q l m = fits_signed_from_abs w32 n (let u : unsigned_abs n ≤ farthest = omega (arith, ints, p, q, l, m) in omega (arith, u))

same-long : (n : ℤ) → FitsSigned w32 n → to_z w64 (of_z w64 n) ≡ n
same-long n f = to_z-of_z w64 n (sfits_of (let l = f.sfits in omega (arith, ints, l)))

pub long-fits : (n : ℤ) → FitsSigned w32 n → FitsSigned w32 (to_z w64 (of_z w64 n))
long-fits n f = rw (same-long n f) f

pub same-short : (n : ℤ) → FitsSigned w32 n → to_z w32 (of_z w32 (to_z w64 (of_z w64 n))) ≡ n
same-short n f = rw (same-long n f) (to_z-of_z w32 n f)

pub greater-fits : (a b c n : ℤ) → unsigned_abs a ≤ farthest → unsigned_abs c ≤ farthest → a <ℤ c → b <ℤ c → n ≡ int_max a b → FitsSigned w32 n
greater-fits a b c n p q l m e = let g = greater-of a b n e in fits-between a n c p q g.first (g.least c (omega (arith, ints, l)) (omega (arith, ints, m)))

pub smaller-fits : (a b c n : ℤ) → unsigned_abs c ≤ farthest → unsigned_abs a ≤ farthest → c <ℤ a → c <ℤ b → n ≡ int_min a b → FitsSigned w32 n
smaller-fits a b c n p q l m e = let g = smaller-of a b n e in fits-between c n a p q (g.greatest c (omega (arith, ints, l)) (omega (arith, ints, m))) g.first

pub greater-as : (a b c n : ℤ) → FitsSigned w32 a → FitsSigned w64 b → b ≡ c → n ≡ int_max (to_z w64 (of_z w64 (to_z w32 (of_z w32 a)))) (to_z w64 (of_z w64 b)) → n ≡ int_max a c
greater-as a b c n f g same e = rw (same-wide a f, to_z-of_z w64 b g, same) at e

pub smaller-as : (a b c n : ℤ) → FitsSigned w32 a → FitsSigned w64 b → b ≡ c → n ≡ int_min (to_z w64 (of_z w64 (to_z w32 (of_z w32 a)))) (to_z w64 (of_z w64 b)) → n ≡ int_min a c
smaller-as a b c n f g same e = rw (same-wide a f, to_z-of_z w64 b g, same) at e

module _ (r cell : Rect) (x0 y0 x1 y1 : ℤ) (left_is : x0 ≡ int_max r.x0 cell.x0) (low_is : y0 ≡ int_max r.y0 cell.y0)
    (right_is : x1 ≡ int_min r.x1 cell.x1) (high_is : y1 ≡ int_min r.y1 cell.y1) where
  left : IsGreater r.x0 cell.x0 x0
  left = greater-of r.x0 cell.x0 x0 left_is

  low : IsGreater r.y0 cell.y0 y0
  low = greater-of r.y0 cell.y0 y0 low_is

  right : IsSmaller r.x1 cell.x1 x1
  right = smaller-of r.x1 cell.x1 x1 right_is

  high : IsSmaller r.y1 cell.y1 y1
  high = smaller-of r.y1 cell.y1 y1 high_is

  -- the squares of both
  pub clip-squares : (p : Pt) → Has (record { x0 = x0; y0 = y0; x1 = x1; y1 = y1 }) p ↔ in_cell cell (Has r) p
  clip-squares p = (
    λ h. (
        let a = h.left in
        let b = h.right in
        let c = h.low in
        let d = h.high in
        let e = left.first in
        let f = right.first in
        let g = low.first in
        let i = high.first in
        let j = left.second in
        let k = right.second in
        let l = low.second in
        let m = high.second in (
          record { left = omega (arith, ints, a, e); right = omega (arith, ints, b, f); low = omega (arith, ints, c, g); high = omega (arith, ints, d, i) },
          record { left = omega (arith, ints, a, j); right = omega (arith, ints, b, k); low = omega (arith, ints, c, l); high = omega (arith, ints, d, m) },
        )),
    λ (h, k). (
        let a = h.right in
        let b = k.right in
        let c = h.high in
        let d = k.high in
        let e = right.greatest (p.x +ℤ pos 1) (omega (arith, ints, a)) (omega (arith, ints, b)) in
        let f = high.greatest (p.y +ℤ pos 1) (omega (arith, ints, c)) (omega (arith, ints, d)) in
        record { left = left.least p.x h.left k.left; right = omega (arith, ints, e); low = low.least p.y h.low k.low; high = omega (arith, ints, f) }),
  )

  pub clip-solid : IsSolidWithin farthest r → IsSolid cell → HaveCommon cell r → IsSolidWithin farthest (record { x0 = x0; y0 = y0; x1 = x1; y1 = y1 })
  clip-solid slab solid common =
      let rc = slab.wide in
      let rt = slab.tall in
      let cw = solid.wide in
      let ct = solid.tall in
      let cl = common.left in
      let cr = common.right in
      let co = common.low in
      let ch = common.high in
      let a = right.greatest (r.x0 +ℤ pos 1) (omega (arith, ints, rc)) (omega (arith, ints, cr)) in
      let b = right.greatest (cell.x0 +ℤ pos 1) (omega (arith, ints, cl)) (omega (arith, ints, cw)) in
      let w = left.least (x1 -ℤ pos 1) (omega (arith, ints, a)) (omega (arith, ints, b)) in
      let c = high.greatest (r.y0 +ℤ pos 1) (omega (arith, ints, rt)) (omega (arith, ints, ch)) in
      let d = high.greatest (cell.y0 +ℤ pos 1) (omega (arith, ints, co)) (omega (arith, ints, ct)) in
      let t = low.least (y1 -ℤ pos 1) (omega (arith, ints, c)) (omega (arith, ints, d)) in
      let e = left.first in
      let f = right.first in
      let g = low.first in
      let i = high.first in
      let j = slab.left in
      let k = slab.right in
      let l = slab.low in
      let m = slab.high in
      record {
        wide = omega (arith, ints, w);
        tall = omega (arith, ints, t);
        left = omega (arith, ints, e, w, f, j, k);
        right = omega (arith, ints, e, w, f, j, k);
        low = omega (arith, ints, g, t, i, l, m);
        high = omega (arith, ints, g, t, i, l, m);
      }
