-- Slabs of strips put together.
use Rattle.std.proofs.Common.{◌≡◌, ℕ, zero, suc, ◌+◌, ◌≤◌, ◌<◌, inl, inr, List, [], ◌∷◌, ◌++◌, ◌⊎◌, length, get_or, take, drop, sym, ap, ◌∙◌, subst, true, false, arith}
use Rattle.std.specs.Prelude.{ℤ, pos, ◌-ℤ◌, ◌≤ℤ◌, ◌<ℤ◌, int_lt}
use Rattle.std.specs.Int.{int_max}
use Rattle.std.specs.List.{AllPairs, Contains}
use Rattle.std.specs.List.Sorted.{IsPermutation}
use lib.Signed.{lt_z, lt_z_yes, lt_z_no}
use Rattle.std.proofs.lemmas.Float.{T_from_true, T_from_false}
use Rattle.std.proofs.lemmas.Int.{ints}
use Rattle.std.proofs.lemmas.List.{get_or-drop, get_or-take, get_or_default, length-drop, length-take, take-append-drop, drop_all}
use Rattle.std.proofs.lemmas.List.Elements.{All-append, All-contains, Contains-append_left, Contains-append_right, Contains-append_cases}
use Rattle.std.proofs.lemmas.List.Elements.{Contains-get_or, Contains-push, Contains-push_cases}
use Rattle.std.proofs.lemmas.Bool.{cases_lt, cases_cond}
use Rattle.std.proofs.lemmas.List.Sorted.{IsPermutation-sym, Contains-permutation}
use Rattle.std.proofs.Math.Seq.{take-suc}
use Rattle.dpl_spec_split.specs.declared.Pt.{Pt}
use Rattle.dpl_spec_split.specs.declared.Rect.{Rect}
use Rattle.dpl_spec_split.specs.Squares.{Region, Covers}
use Rattle.dpl_spec_split.specs.Slabs.{IsSolid, Follows, IsCanonical, AreSlabsOf}
use Rattle.dpl_spec_split.specs.Loops.{farthest, AreRectsWithin}
use Rattle.dpl_spec_split.proofs.Ordered.{AllPairs-rest, AllPairs-first, Contains-head, Contains-later, Contains-nil}
use Rattle.dpl_spec_split.proofs.SlabLaws.{Covers-member, member-Covers}
use Rattle.dpl_order.proofs.JoinLaws.{covers-same}
use Rattle.dpl_order.specs.Orders.{CornerBefore, CornersRise}
use Rattle.dpl_slabs.specs.Strips.{LieBelow, AddsStrip, AreStripsOf}
use Rattle.dpl_slabs.proofs.LoopLaws.{covers-appended, rects-appended}
use Rattle.dpl_slabs.proofs.SetLaws.{rects-none, slabs-of-same}

-- a relation of all pairs of two lists
pub AllPairs-append : {X : Type 0} (R : X → X → Type 0) (xs ys : List X) → AllPairs R xs → AllPairs R ys
    → ((x y : X) → Contains xs x → Contains ys y → R x y) → AllPairs R (xs ++ ys)
AllPairs-append R [] ys a b c i j d l k = b i j d l k
AllPairs-append R (x ∷ xs) ys a b c zero zero d l k = absurd (omega (arith, l))
AllPairs-append R (x ∷ xs) ys a b c zero (suc j) d l k =
    let there : Contains (xs ++ ys) (get_or (xs ++ ys) j d) = Contains-get_or (xs ++ ys) j d (omega (arith, k)) in
    elim (Contains-append_cases xs ys (get_or (xs ++ ys) j d) there) [
      | inl h ↦ AllPairs-first R x (get_or (xs ++ ys) j d) xs a h
      | inr h ↦ c x (get_or (xs ++ ys) j d) (Contains-head x xs) h
    ]
AllPairs-append R (x ∷ xs) ys a b c (suc i) zero d l k = absurd (omega (arith, l))
AllPairs-append R (x ∷ xs) ys a b c (suc i) (suc j) d l k = AllPairs-append R xs ys (AllPairs-rest R x xs a) b
    (λ u v u_in v_in. c u v (Contains-later x u xs u_in) v_in) i j d (omega (arith, l)) (omega (arith, k))

-- some rectangle begins no higher than a slab of some of the rectangles' squares
slab-over : (rs slabs : List Rect) (s : Rect) → IsCanonical slabs → ((p : Pt) → Covers slabs p → Covers rs p) → Contains slabs s → (r : Rect) × Contains rs r × (r.y0 ≤ℤ s.y0)
slab-over rs slabs s c inside s_in =
    let solid : IsSolid s = All-contains IsSolid slabs s c.solid s_in in
    let wide = solid.wide in
    let tall = solid.tall in
    let low : Pt = record { x = s.x0; y = s.y0 } in
    let (r, r_in, has) = member-Covers rs low
    (inside low (Covers-member slabs s low s_in
    (record { left = omega (arith, ints); right = wide; low = omega (arith, ints); high = tall }))) in
    (r, r_in, has.low)

-- some rectangle ends no lower
slab-under : (rs slabs : List Rect) (s : Rect) → IsCanonical slabs → ((p : Pt) → Covers slabs p → Covers rs p) → Contains slabs s → (r : Rect) × Contains rs r × (s.y1 ≤ℤ r.y1)
slab-under rs slabs s c inside s_in =
    let solid : IsSolid s = All-contains IsSolid slabs s c.solid s_in in
    let wide = solid.wide in
    let tall = solid.tall in
    let high : Pt = record { x = s.x0; y = s.y1 -ℤ pos 1 } in
    let (r, r_in, has) = member-Covers rs high
    (inside high (Covers-member slabs s high s_in
    (record { left = omega (arith, ints); right = wide; low = omega (arith, ints, tall); high = omega (arith, ints) }))) in
    let top = has.high in
    (r, r_in, omega (arith, ints, top))

pub follows-below : (r s : Rect) → IsSolid r → IsSolid s → r.y1 <ℤ s.y0 → Follows r s
follows-below r s solid other l =
    let tall = solid.tall in
    record {
      before = inl (omega (arith, ints, l, tall));
      apart = λ (low, high). absurd (omega (arith, ints, l, high));
      separate = λ on. (let row = on.row in omega (arith, ints, l, row));
    }

-- the slabs of some of a strip's squares are added above others
pub adds-strip : (a : Region) (old more strip : List Rect) → IsCanonical old → LieBelow old strip → ((p : Pt) → a p → Covers strip p)
    → AreSlabsOf a more → AreRectsWithin farthest more → AddsStrip a old (old ++ more) strip
adds-strip a old more strip c below own s w =
    let inside : (p : Pt) → Covers more p → Covers strip p = λ p h. own p ((s.covers p).0 h) in
    let under : LieBelow old more = λ r t r_in t_in. (let (q, q_in, l) = slab-over strip more t s.canonical inside t_in in
    let h = below r q r_in q_in in omega (arith, ints, l, h)) in
    record {
      canonical = record {
        solid = All-append IsSolid old more c.solid s.canonical.solid;
        follow = AllPairs-append Follows old more c.follow s.canonical.follow
            (λ r t r_in t_in. follows-below r t (All-contains IsSolid old r c.solid r_in)
            (All-contains IsSolid more t s.canonical.solid t_in) (under r t r_in t_in));
      };
      covers = covers-appended a old more s.covers;
      within = λ v. rects-appended farthest old more v w;
      below = λ others f g r t r_in t_in. elim (Contains-append_cases old more r r_in) [
        | inl h ↦ f r t h t_in
        | inr h ↦ (let (q, q_in, l) = slab-under strip more r s.canonical inside h in let k = g q t q_in t_in in omega (arith, ints, l, k))
      ];
    }

-- rectangles in another order
pub sorted-within : (rects sorted : List Rect) → IsPermutation rects sorted → AreRectsWithin farthest rects → AreRectsWithin farthest sorted
sorted-within rects sorted same w r r_in = w r (Contains-permutation sorted rects r (IsPermutation-sym rects sorted same) r_in)

pub sorted-slabs : (rects sorted slabs : List Rect) → IsPermutation rects sorted → AreSlabsOf (Covers sorted) slabs → AreSlabsOf (Covers rects) slabs
sorted-slabs rects sorted slabs same s = slabs-of-same (Covers sorted) (Covers rects) slabs (λ p. ((covers-same rects sorted same p).1, (covers-same rects sorted same p).0)) s

pub strips-none : (rects : List Rect) → CornersRise rects → AreRectsWithin farthest rects → AreStripsOf rects [] rects
strips-none rects rise w =
    record {
      canonical = record { solid = λ i d k. absurd (omega (arith, k)); follow = λ i j d l k. absurd (omega (arith, k)) };
      covers = λ p. (
        (λ h. elim h [ inl c ↦ absurd (let found = member-Covers [] p c in Contains-nil found.0 found.1) | inr c ↦ c ]),
        λ c. inr c,
      );
      within = rects-none farthest;
      rest_within = w;
      rise = rise;
      below = λ r s r_in s_in. absurd (Contains-nil r r_in);
    }

pub rise-drop : (n : ℕ) (rs : List Rect) → CornersRise rs → CornersRise (drop n rs)
rise-drop n rs rise i j d l j_in =
    let len = length-drop n rs in
    let h = rise (n + i) (n + j) d (omega (arith, l)) (omega (arith, len, j_in)) in
    rw (get_or-drop n rs i d, get_or-drop n rs j d) h

pub rise-take : (n : ℕ) (rs : List Rect) → CornersRise rs → CornersRise (take n rs)
rise-take n rs rise i j d l j_in =
    let len = length-take n rs in
    let j_n : j < n = omega (arith, len, j_in) in
    let i_n : i < n = omega (arith, l, j_n) in
    rw (get_or-take n rs i d i_n, get_or-take n rs j d j_n) (rise i j d l (omega (arith, len, j_in)))

-- a corner that isn't before another begins no lower
pub corner-above : (a b : Rect) → CornerBefore a b → a.y0 ≤ℤ b.y0
corner-above a b (inl l) = omega (arith, ints, l)
corner-above a b (inr (e, l)) = omega (arith, ints, e)

pub covers-parts : (strip others rest : List Rect) (p : Pt) → strip ++ others ≡ rest → Covers rest p → Covers strip p ⊎ Covers others p
covers-parts strip others rest p e c =
    let (r, r_in, has) = member-Covers rest p c in
    elim (Contains-append_cases strip others r (subst (λ xs. Contains xs r) (sym e) r_in)) [
      | inl h ↦ inl (Covers-member strip r p h has)
      | inr h ↦ inr (Covers-member others r p h has)
    ]

pub left-in : (strip others rest : List Rect) (r : Rect) → strip ++ others ≡ rest → Contains strip r → Contains rest r
left-in strip others rest r e r_in = subst (λ xs. Contains xs r) e (Contains-append_left strip others r r_in)

pub right-in : (strip others rest : List Rect) (r : Rect) → strip ++ others ≡ rest → Contains others r → Contains rest r
right-in strip others rest r e r_in = subst (λ xs. Contains xs r) e (Contains-append_right strip others r r_in)

-- what a strip of the rest is
module _ (rects slabs rest : List Rect) (n : ℕ) (s : AreStripsOf rects slabs rest) where
  whole : take n rest ++ drop n rest ≡ rest
  whole = take-append-drop n rest

  pub strips-next : (new : List Rect) → LieBelow (take n rest) (drop n rest) → AddsStrip (Covers (take n rest)) slabs new (take n rest) → AreStripsOf rects new (drop n rest)
  strips-next new gap a =
      record {
        canonical = a.canonical;
        covers = λ p. (
          (λ h. elim h [
            | inl c ↦ elim ((a.covers p).0 c) [
              | inl old ↦ (s.covers p).0 (inl old)
              | inr k ↦ (let (r, r_in, has) = member-Covers (take n rest) p k in
                  (s.covers p).0 (inr (Covers-member rest r p (left-in (take n rest) (drop n rest) rest r whole r_in) has)))
            ]
            | inr k ↦ (let (r, r_in, has) = member-Covers (drop n rest) p k in
                (s.covers p).0 (inr (Covers-member rest r p (right-in (take n rest) (drop n rest) rest r whole r_in) has)))
          ]),
          λ h. elim ((s.covers p).1 h) [
            | inl old ↦ inl ((a.covers p).1 (inl old))
            | inr c ↦ elim (covers-parts (take n rest) (drop n rest) rest p whole c) [
              | inl k ↦ inl ((a.covers p).1 (inr k))
              | inr k ↦ inr k
            ]
          ],
        );
        within = a.within s.within;
        rest_within = λ r r_in. s.rest_within r (right-in (take n rest) (drop n rest) rest r whole r_in);
        rise = rise-drop n rest s.rise;
        below = a.below (drop n rest) (λ r t r_in t_in. s.below r t r_in (right-in (take n rest) (drop n rest) rest t whole t_in)) gap;
      }

pub strips-all : (rects slabs rest : List Rect) → length rest ≤ 0 → AreStripsOf rects slabs rest → AreSlabsOf (Covers rects) slabs
strips-all rects slabs [] none s =
    record {
      canonical = s.canonical;
      covers = λ p. (
        (λ c. (s.covers p).0 (inl c)),
        λ c. elim ((s.covers p).1 c) [ inl k ↦ k | inr k ↦ absurd (let found = member-Covers [] p k in Contains-nil found.0 found.1) ],
      );
    }
strips-all rects slabs (r ∷ rest) none s = absurd (omega (arith, none))

-- the first n end at row top or below it
abbrev pub EndBy : List Rect → ℕ → ℤ → Type 0
EndBy rs n top = (r : Rect) → Contains (take n rs) r → r.y1 ≤ℤ top

pub end-next : (rs : List Rect) (n : ℕ) (r : Rect) (top new : ℤ) → n < length rs → r ≡ get_or rs n r → top ≤ℤ new → r.y1 ≤ℤ new → EndBy rs n top → EndBy rs (n + 1) new
end-next rs n r top new n_in r_is l m h q q_in =
    let one : n + 1 ≡ suc n = omega arith in
    let step : take (n + 1) rs ≡ take n rs ++ r ∷ [] = ap (λ k. take k rs) one ∙ (take-suc rs n r n_in ∙ ap (λ s. take n rs ++ s ∷ []) (sym r_is)) in
    elim (Contains-push_cases (take n rs) r q (subst (λ xs. Contains xs q) step q_in)) [
      | inl old ↦ (let k = h q old in omega (arith, ints, k, l))
      | inr e ↦ subst (λ t. t.y1 ≤ℤ new) e m
    ]

pub end-first : (rs : List Rect) (r : Rect) → 0 < length rs → r ≡ get_or rs 0 r → EndBy rs 1 r.y1
end-first rs r some r_is = end-next rs 0 r r.y1 r.y1 some r_is (omega (arith, ints)) (omega (arith, ints)) (λ q q_in. absurd (Contains-nil q q_in))

-- and one of them ends there, and no fewer are a strip
pub record IsOpen (rs : List Rect) (n : ℕ) (top : ℤ) : Type 0 where
  pub ends : EndBy rs n top
  pub reached : (r : Rect) × Contains (take n rs) r × (top ≤ℤ r.y1)
  pub least : (k : ℕ) → 0 < k → k < n → ¬ LieBelow (take k rs) (drop k rs)

no-gap : (rs : List Rect) (n : ℕ) (r q : Rect) (top : ℤ) → n < length rs → r ≡ get_or rs n r → Contains (take n rs) q → top ≤ℤ q.y1
    → r.y0 ≤ℤ top → ¬ LieBelow (take n rs) (drop n rs)
no-gap rs n r q top n_in r_is q_in l m below =
    let here : n + 0 ≡ n = omega arith in
    let first : get_or (drop n rs) 0 r ≡ r = get_or-drop n rs 0 r ∙ (ap (λ k. get_or rs k r) here ∙ sym r_is) in
    let k = below q r q_in (0, omega (arith, length-drop n rs, n_in), first) in
    omega (arith, ints, k, l, m)

pub open-next : (rs : List Rect) (n : ℕ) (r : Rect) (top new : ℤ) → n < length rs → r ≡ get_or rs n r → top ≤ℤ new → r.y1 ≤ℤ new
    → (new ≡ top) ⊎ (new ≡ r.y1) → r.y0 ≤ℤ top → IsOpen rs n top → IsOpen rs (n + 1) new
open-next rs n r top new n_in r_is l m known over o = record {
  ends = end-next rs n r top new n_in r_is l m o.ends;
  reached = subst (λ xs. (q : Rect) × Contains xs q × (new ≤ℤ q.y1)) (sym step) (elim known [
    | inl e ↦ (o.reached.0, Contains-append_left (take n rs) (r ∷ []) o.reached.0 o.reached.1, (let k = o.reached.2 in omega (arith, ints, k, e)))
    | inr e ↦ (r, Contains-push (take n rs) r, omega (arith, ints, e))
  ]);
  least = λ k some less. elim (cases_lt k n) [
    | inl before ↦ o.least k some before
    | inr after ↦ (let here : k ≡ n = omega (arith, after, less) in rw here (no-gap rs n r o.reached.0 top n_in r_is o.reached.1 o.reached.2 over))
  ];
}
  where
    one : n + 1 ≡ suc n
    one = omega arith

    step : take (n + 1) rs ≡ take n rs ++ r ∷ []
    step = ap (λ k. take k rs) one ∙ (take-suc rs n r n_in ∙ ap (λ s. take n rs ++ s ∷ []) (sym r_is))

pub open-first : (rs : List Rect) (r : Rect) → 0 < length rs → r ≡ get_or rs 0 r → IsOpen rs 1 r.y1
open-first rs r some r_is = record {
  ends = end-first rs r some r_is;
  reached = subst (λ xs. (q : Rect) × Contains xs q × (r.y1 ≤ℤ q.y1)) (sym step) (r, Contains-push [] r, omega (arith, ints));
  least = λ k a b. absurd (omega (arith, a, b));
}
  where
    step : take 1 rs ≡ r ∷ []
    step = take-suc rs 0 r some ∙ ap (λ s. s ∷ []) (sym r_is)

pub gap-here : (rs : List Rect) (n : ℕ) (r : Rect) (top : ℤ) → n < length rs → r ≡ get_or rs n r → CornersRise rs → EndBy rs n top → top <ℤ r.y0 → LieBelow (take n rs) (drop n rs)
gap-here rs n r top n_in r_is rise h l q s q_in (k, k_in, s_is) =
    let len = length-drop n rs in
    let at : get_or rs (n + k) s ≡ s = sym (get_or-drop n rs k s) ∙ s_is in
    let here : get_or rs n s ≡ r = get_or_default rs n s r n_in ∙ sym r_is in
    let m = corner-above (get_or rs n s) (get_or rs (n + k) s) (rise n (n + k) s (omega arith) (omega (arith, len, k_in))) in
    let o = rw (at, here) at m in
    let e = h q q_in in
    omega (arith, ints, e, l, o)

pub gap-none : (rs : List Rect) → LieBelow (take (length rs) rs) (drop (length rs) rs)
gap-none rs q s q_in s_in = absurd (Contains-nil s (subst (λ xs. Contains xs s) (drop_all (length rs) rs (omega arith)) s_in))

-- what a test of two numbers says, the second by another name
pub lt-from : (a b c : ℤ) → b ≡ c → lt_z a b ≡ true → a <ℤ c
lt-from a b c e h = subst (λ z. a <ℤ z) e (lt_z_yes {a = a} {b = b} (T_from_true (lt_z a b) h))

pub le-from : (a b c : ℤ) → b ≡ c → lt_z a b ≡ false → c ≤ℤ a
le-from a b c e h = subst (λ z. z ≤ℤ a) e (lt_z_no {a = a} {b = b} (T_from_false (lt_z a b) h))

-- what a maximum of two numbers is, the second by another name
pub max-known : (a b c m : ℤ) → b ≡ c → m ≡ int_max a b → (m ≡ a) ⊎ (m ≡ c)
max-known a b c m e h = subst (λ z. (m ≡ a) ⊎ (m ≡ z)) e (cases_cond (int_lt b a) a b m h)
