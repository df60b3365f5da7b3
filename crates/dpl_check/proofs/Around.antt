-- Rectangles round stitches.
use Rattle.std.proofs.Common.{◌≡◌, ℕ, ◌+◌, ◌<◌, ◌≤◌, inl, inr, ℤ, List, [], ◌∷◌, length, get_or, Option, Some, None, refl, sym, subst, arith, rules}
use Rattle.std.specs.Prelude.{unsigned_abs, IsNone, IfSome}
use Rattle.std.specs.Int.{int_min, int_max}
use Rattle.std.specs.List.{All, Contains}
use Rattle.std.proofs.lemmas.Bool.{cases_eq}
use Rattle.std.proofs.lemmas.Int.{ints, clamps}
use Rattle.std.proofs.lemmas.List.{get_or_default}
use Rattle.dpl_spec_split.specs.declared.Pt.{Pt}
use Rattle.dpl_spec_split.specs.declared.Rect.{Rect}
use Rattle.dpl_spec_split.specs.Squares.{Has}
use Rattle.dpl_spec_split.specs.Loops.{farthest, IsRectWithin}
use Rattle.dpl_base.specs.Bounds.{round_one}
use Rattle.dpl_cert.specs.Grammar.{IsCoordinate, IsRect, IsStitch}
use Rattle.dpl_cert.specs.declared.cert.StitchLine.{StitchLine}

least-within : (a b : ℤ) → unsigned_abs a ≤ farthest → unsigned_abs b ≤ farthest → unsigned_abs (int_min a b) ≤ farthest
least-within a b first second = omega (arith, ints, clamps, first, second)

greatest-within : (a b : ℤ) → unsigned_abs a ≤ farthest → unsigned_abs b ≤ farthest → unsigned_abs (int_max a b) ≤ farthest
greatest-within a b first second = omega (arith, ints, clamps, first, second)

coordinate-within : (z : ℤ) → IsCoordinate z → unsigned_abs z ≤ farthest
coordinate-within z (low, high) = omega (arith, ints, low, high)

rect-within : (r : Rect) → IsRect r → IsRectWithin farthest r
rect-within r h = record {
  left = coordinate-within r.x0 h.x0;
  low = coordinate-within r.y0 h.y0;
  right = coordinate-within r.x1 h.x1;
  high = coordinate-within r.y1 h.y1;
}

-- the least rectangle round two
abbrev Both : Rect → Rect → Rect
Both a b = record { x0 = int_min a.x0 b.x0; y0 = int_min a.y0 b.y0; x1 = int_max a.x1 b.x1; y1 = int_max a.y1 b.y1 }

module _ (a b : Rect) where
  both-within : IsRectWithin farthest a → IsRectWithin farthest b → IsRectWithin farthest (Both a b)
  both-within first second = record {
    left = least-within a.x0 b.x0 first.left second.left;
    low = least-within a.y0 b.y0 first.low second.low;
    right = greatest-within a.x1 b.x1 first.right second.right;
    high = greatest-within a.y1 b.y1 first.high second.high;
  }

  first-in : (p : Pt) → Has a p → Has (Both a b) p
  first-in p h =
      let hl = h.left in
      let hr = h.right in
      let hb = h.low in
      let ht = h.high in
      record { left = omega (arith, ints, clamps, hl); right = omega (arith, ints, clamps, hr); low = omega (arith, ints, clamps, hb); high = omega (arith, ints, clamps, ht) }

  second-in : (p : Pt) → Has b p → Has (Both a b) p
  second-in p h =
      let hl = h.left in
      let hr = h.right in
      let hb = h.low in
      let ht = h.high in
      record { left = omega (arith, ints, clamps, hl); right = omega (arith, ints, clamps, hr); low = omega (arith, ints, clamps, hb); high = omega (arith, ints, clamps, ht) }

-- a rectangle in range has the squares of the first n stitches
pub record IsAround (ss : List StitchLine) (n : ℕ) (bounds : Rect) : Type 0 where
  pub within : IsRectWithin farthest bounds
  pub all : (k : ℕ) (d : StitchLine) (p : Pt) → k < n → k < length ss → Has (get_or ss k d).rect p → Has bounds p

-- no rectangle and no stitch, or such a rectangle
abbrev pub IsAroundOf : List StitchLine → ℕ → Option Rect → Type 0
IsAroundOf ss n None = n ≡ 0
IsAroundOf ss n (Some b) = IsAround ss n b

-- one stitch more
more : (ss : List StitchLine) (n : ℕ) (e : StitchLine) (wider : Rect) → n < length ss → IsRectWithin farthest wider
    → ((p : Pt) → Has (get_or ss n e).rect p → Has wider p)
    → ((k : ℕ) (d : StitchLine) (p : Pt) → k < n → k < length ss → Has (get_or ss k d).rect p → Has wider p) → IsAround ss (n + 1) wider
more ss n e wider n_in within last before = record {
  within = within;
  all = λ k d p l k_in has. elim (cases_eq k n) [
    | inl same ↦ last p (subst (λ (t : StitchLine). Has t.rect p) (get_or_default ss n d e n_in) (subst (λ m. let t : StitchLine = get_or ss m d in Has t.rect p) same has))
    | inr ne ↦ before k d p (omega (arith, l, ne)) k_in has
  ];
}

step : (ss : List StitchLine) (n : ℕ) (e : StitchLine) (o : Option Rect) → All IsStitch ss → n < length ss → IsAroundOf ss n o
    → IsAroundOf ss (n + 1) (round_one o (get_or ss n e).rect)
step ss n e None fit n_in is =
    more ss n e (get_or ss n e).rect n_in (rect-within (get_or ss n e).rect (fit n e n_in).rect) (λ p has. has) (λ k d p l k_in has. absurd (omega (arith, is, l)))
step ss n e (Some b) fit n_in h =
    more ss n e (Both b (get_or ss n e).rect) n_in (both-within b (get_or ss n e).rect h.within (rect-within (get_or ss n e).rect (fit n e n_in).rect))
    (λ p has. second-in b (get_or ss n e).rect p has) (λ k d p l k_in has. first-in b (get_or ss n e).rect p (h.all k d p l k_in has))

pub around-more : (ss : List StitchLine) (n : ℕ) (e : StitchLine) (o wider : Option Rect) → All IsStitch ss → n < length ss
    → IsAroundOf ss n o → wider ≡ round_one o (get_or ss n e).rect
    → IsAroundOf ss (n + 1) wider
around-more ss n e o wider fit n_in h is = subst (λ w. IsAroundOf ss (n + 1) w) (sym is) (step ss n e o fit n_in h)

-- round all
module _ (ss : List StitchLine) (n : ℕ) (end : length ss ≤ n) where
  none-left : (xs : List StitchLine) → length xs ≤ 0 → xs ≡ []
  none-left [] l = refl
  none-left (x ∷ xs) l = absurd (omega (arith, l))

  pub around-none : (o : Option Rect) → IsAroundOf ss n o → IsNone o → ss ≡ []
  around-none None h is = none-left ss (omega (arith, end, h))
  around-none (Some b) h is = cc

  pub around-within : (o : Option Rect) → IsAroundOf ss n o → IfSome o (IsRectWithin farthest)
  around-within None h = search rules
  around-within (Some b) h = h.within

  pub around-all : (o : Option Rect) → IsAroundOf ss n o → IfSome o (λ b. (s : StitchLine) (p : Pt) → Contains ss s → Has s.rect p → Has b p)
  around-all None h = search rules
  around-all (Some b) h = λ s p (k, k_in, is) has. h.all k s p (omega (arith, end, k_in)) k_in (subst (λ (t : StitchLine). Has t.rect p) (sym is) has)
