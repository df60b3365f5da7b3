-- The nearest pair, by the least near squares of either set.
use Rattle.std.proofs.Common.{◌≡◌, ℕ, ◌<◌, ◌≤◌, inl, inr, sym, refl, subst, arith, List, [], ◌∷◌, length, get_or}
use Rattle.std.specs.Prelude.{pos, unsigned_abs, ◌+ℤ◌, ◌≤ℤ◌, ◌<ℤ◌}
use Rattle.std.specs.Int.{w32}
use Rattle.std.proofs.lemmas.Int.{fits_signed_from_abs, ints}
use Rattle.dpl_spec_split.specs.declared.Spacing.{Spacing}
use Rattle.dpl_spec_split.specs.declared.Pt.{Pt}
use Rattle.dpl_spec_split.specs.declared.Rect.{Rect}
use Rattle.dpl_spec_split.specs.Squares.{Region, Has, Covers, IsLeast, AreNear, Near}
use Rattle.dpl_spec_split.specs.Loops.{IsRectWithin, AreRectsWithin, farthest}
use Rattle.dpl_spec_split.proofs.SquareLaws.{Near-sym}
use Rattle.dpl_nearest.specs.Nearest.{IsNearestPair}
use Rattle.dpl_nearest.specs.Search.{FitsIn32Bits, near_part, unit_of}
use Rattle.dpl_nearest.proofs.NearLaws.{same_square}

-- the only rectangle of a list of one
only_rect : (P : Rect → Type 0) (u : Rect) (k : ℕ) (d : Rect) → k < length (u ∷ []) → P (get_or (u ∷ []) k d) → P u
only_rect P u k d k_in h =
    let first : k ≡ 0 = omega (arith, k_in) in
    subst (λ n. P (get_or (u ∷ []) n d)) first h

unit_only : (p q : Pt) → Has (unit_of p) q → q ≡ p
unit_only p q h =
    let a : p.x ≤ℤ q.x = h.left in
    let b : q.x <ℤ (p.x +ℤ pos 1) = h.right in
    let c : p.y ≤ℤ q.y = h.low in
    let d : q.y <ℤ (p.y +ℤ pos 1) = h.high in
    same_square q p (omega (arith, ints)) (omega (arith, ints))

unit_self : (p : Pt) → Has (unit_of p) p
unit_self p = record { left = omega (arith, ints); right = omega (arith, ints); low = omega (arith, ints); high = omega (arith, ints) }

covers_only : (p : Pt) (u : Rect) (q : Pt) → u ≡ unit_of p → Covers (u ∷ []) q → q ≡ p
covers_only p u q e (k, r, k_in, k_is, h) =
    unit_only p q (subst (λ (v : Rect). Has v q) e (only_rect (λ (v : Rect). Has v q) u k r k_in (subst (λ (v : Rect). Has v q) (sym k_is) h)))

covers_self : (p : Pt) (u : Rect) → u ≡ unit_of p → Covers (u ∷ []) p
covers_self p u e = (0, u, omega arith, refl, subst (λ (v : Rect). Has v p) (sym e) (unit_self p))

-- a square within range fits in a rectangle
pub unit_fits : (p : Pt) → unsigned_abs p.x ≤ farthest → unsigned_abs p.y ≤ farthest → FitsIn32Bits (unit_of p)
unit_fits p x y = record {
  left = fits_signed_from_abs w32 p.x (omega (arith, x));
  right = fits_signed_from_abs w32 (p.x +ℤ pos 1) (omega (arith, ints, x));
  low = fits_signed_from_abs w32 p.y (omega (arith, y));
  high = fits_signed_from_abs w32 (p.y +ℤ pos 1) (omega (arith, ints, y));
}

pub covered_fits : (rs : List Rect) (p : Pt) → AreRectsWithin farthest rs → Covers rs p → FitsIn32Bits (unit_of p)
covered_fits rs p within (k, r, k_in, k_is, h) =
    let r_in : IsRectWithin farthest r = within r (k, k_in, k_is) in
    unit_fits p (omega (arith, ints, r_in.left, r_in.right, h.left, h.right)) (omega (arith, ints, r_in.low, r_in.high, h.low, h.high))

-- the square that a least near one is near
pub has_partner : (spacing : Spacing) (a b : Region) (p : Pt) (u : Rect) → u ≡ unit_of p → IsLeast (near_part spacing a b) p → AreNear spacing b (Covers (u ∷ []))
has_partner spacing a b p u e least =
    let near = least.inside.1 in
    (near.0, p, near.1, covers_self p u e, Near-sym spacing p near.0 near.2)

pub nearest_pair : (spacing : Spacing) (a b : Region) (p t : Pt) (u : Rect) → u ≡ unit_of p → IsLeast (near_part spacing a b) p
    → IsLeast (near_part spacing b (Covers (u ∷ []))) t → IsNearestPair spacing a b p t
nearest_pair spacing a b p t u e from to =
    let near = to.inside.1 in
    let is : near.0 ≡ p = covers_only p u near.0 e near.1 in
    record {
      are = record { from = from.inside.0; to = to.inside.0; close = Near-sym spacing t p (subst (λ (v : Pt). Near spacing t v) is near.2) };
      least = λ r s h. elim (from.first r (h.from, (s, h.to, h.close))) [
        | inr before ↦ inl before
        | inl same ↦ inr (same, to.first s (h.to, (p, covers_self p u e, Near-sym spacing p s (subst (λ (v : Pt). Near spacing v s) (sym same) h.close))))
      ];
    }
