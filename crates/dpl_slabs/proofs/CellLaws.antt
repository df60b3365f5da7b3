-- Sums over rectangles' squares and edges.
use Rattle.std.proofs.Common.{◌≡◌, ℕ, suc, ◌+◌, ◌≤◌, ◌<◌, inl, inr, List, [], ◌∷◌, ◌++◌, length, get_or, take, refl, sym, ap, ◌∙◌, subst, arith, Bool, true, false, cond}
use Rattle.std.specs.Prelude.{ℤ, pos, ◌+ℤ◌, neg_ℤ, ◌≤ℤ◌, ◌<ℤ◌, unsigned_abs}
use Rattle.std.specs.List.{Contains}
use Rattle.std.proofs.lemmas.Int.{ints, by_lt_z}
use Rattle.std.proofs.lemmas.List.Elements.{Contains-append_left, Contains-append_cases, Contains-push, Contains-push_cases}
use Rattle.std.proofs.Math.Seq.{take-suc}
use Rattle.dpl_spec_split.specs.declared.Pt.{Pt}
use Rattle.dpl_spec_split.specs.declared.Rect.{Rect}
use Rattle.dpl_spec_split.specs.Squares.{Has, Covers}
use Rattle.dpl_spec_split.proofs.Ordered.{Contains-head, Contains-later, Contains-cases, Contains-nil}
use Rattle.dpl_spec_split.proofs.SlabLaws.{Covers-member, member-Covers}
use Rattle.dpl_sweep.specs.declared.edge.Edge.{Edge}
use Rattle.dpl_sweep.specs.Edges.{is_left, part, change_a, change_b}
use Rattle.dpl_sweep.specs.Passes.{IsUnitEdge, AreLeft}
use Rattle.dpl_sweep.proofs.EdgeLaws.{sum_left-push, part-on, part-before, part-off}
use Rattle.dpl_slabs.specs.Cells.{has_square, cells, AddsRects}

pub cells-append : (a : ℤ) (rs ss : List Rect) (p : Pt) → cells a (rs ++ ss) p ≡ cells a rs p +ℤ cells a ss p
cells-append a [] ss p = omega (arith, ints)
cells-append a (r ∷ rs) ss p = let h = cells-append a rs ss p in omega (arith, ints, h)

pub cells-zero : (rs : List Rect) (p : Pt) → cells (pos 0) rs p ≡ pos 0
cells-zero [] p = refl
cells-zero (r ∷ rs) p = let h = cells-zero rs p in
    elim (has_square r p) as (λ z. cond z (pos 0) (pos 0) +ℤ cells (pos 0) rs p ≡ pos 0) [
      | true ↦ omega (arith, ints, h)
      | false ↦ omega (arith, ints, h)
    ]

pub has_square-yes : (r : Rect) (p : Pt) → Has r p → has_square r p ≡ true
has_square-yes r p h = let a = h.left in let b = h.right in let c = h.low in let d = h.high in grind (arith, ints, a, b, c, d)

pub has_square-no : (r : Rect) (p : Pt) → (Has r p → ⊥) → has_square r p ≡ false
has_square-no r p none =
    by_lt_z p.x r.x0 (λ l. grind (arith, ints, l)) (λ a.
    by_lt_z p.x r.x1 (λ b.
    by_lt_z p.y r.y0 (λ l. grind (arith, ints, l)) (λ c.
    by_lt_z p.y r.y1 (λ d. absurd (none (record { left = a; right = b; low = c; high = d })))
    (λ l. grind (arith, ints, l))))
    (λ l. grind (arith, ints, l)))

pub cells-least : (rs : List Rect) (p : Pt) → pos 0 ≤ℤ cells (pos 1) rs p
cells-least [] p = omega (arith, ints)
cells-least (r ∷ rs) p = let h = cells-least rs p in
    elim (has_square r p) as (λ z. pos 0 ≤ℤ (cond z (pos 1) (pos 0) +ℤ cells (pos 1) rs p)) [
      | true ↦ omega (arith, ints, h)
      | false ↦ omega (arith, ints, h)
    ]

-- where no rectangle has the square, the sum is 0
pub cells-none : (a : ℤ) (rs : List Rect) (p : Pt) → ((r : Rect) → Contains rs r → Has r p → ⊥) → cells a rs p ≡ pos 0
cells-none a [] p none = refl
cells-none a (r ∷ rs) p none =
    let h = cells-none a rs p (λ s s_in. none s (Contains-later r s rs s_in)) in
    let e = has_square-no r p (none r (Contains-head r rs)) in
    rw e (omega (arith, ints, h))

tail-zero : (b : Bool) (x : ℤ) → pos 0 ≤ℤ x → cond b (pos 1) (pos 0) +ℤ x ≡ pos 0 → x ≡ pos 0
tail-zero true x l e = omega (arith, ints, l, e)
tail-zero false x l e = omega (arith, ints, e)

-- where one has it, it isn't
pub cells-some : (rs : List Rect) (p : Pt) (r : Rect) → Contains rs r → Has r p → cells (pos 1) rs p ≡ pos 0 → ⊥
cells-some [] p r r_in has e = Contains-nil r r_in
cells-some (s ∷ rs) p r r_in has e =
    let least = cells-least rs p in
    elim (Contains-cases s r rs r_in) [
      | inl same ↦ (let yes = has_square-yes s p (subst (λ t. Has t p) (sym same) has) in let f = rw yes at e in omega (arith, ints, f, least))
      | inr later ↦ cells-some rs p r later has (tail-zero (has_square s p) (cells (pos 1) rs p) least e)
    ]

pub covered-sum : (rs : List Rect) (p : Pt) → Covers rs p → cells (pos 1) rs p ≡ pos 0 → ⊥
covered-sum rs p h e = let found = member-Covers rs p h in cells-some rs p found.0 found.1 found.2 e

square-has : (r : Rect) (p : Pt) → has_square r p ≡ true → Has r p
square-has r p e =
    by_lt_z p.x r.x0 (λ l. absurd (let f = has_square-no r p (λ h. (let k = h.left in omega (arith, ints, k, l))) in cc)) (λ a.
    by_lt_z p.x r.x1 (λ b.
    by_lt_z p.y r.y0 (λ l. absurd (let f = has_square-no r p (λ h. (let k = h.low in omega (arith, ints, k, l))) in cc)) (λ c.
    by_lt_z p.y r.y1 (λ d. record { left = a; right = b; low = c; high = d })
    (λ l. absurd (let f = has_square-no r p (λ h. (let k = h.high in omega (arith, ints, k, l))) in cc))))
    (λ l. absurd (let f = has_square-no r p (λ h. (let k = h.right in omega (arith, ints, k, l))) in cc)))

covers-later : (r : Rect) (rs : List Rect) (p : Pt) → Covers rs p → Covers (r ∷ rs) p
covers-later r rs p h = let found = member-Covers rs p h in Covers-member (r ∷ rs) found.0 p (Contains-later r found.0 rs found.1) found.2

sum-cases : (r : Rect) (rs : List Rect) (p : Pt) (b : Bool) → has_square r p ≡ b → (cond b (pos 1) (pos 0) +ℤ cells (pos 1) rs p ≡ pos 0
    → ⊥) → ((cells (pos 1) rs p ≡ pos 0 → ⊥) → Covers rs p) → Covers (r ∷ rs) p
sum-cases r rs p true e none rest = Covers-member (r ∷ rs) r p (Contains-head r rs) (square-has r p e)
sum-cases r rs p false e none rest = covers-later r rs p (rest (λ f. none (omega (arith, ints, f))))

pub sum-covered : (rs : List Rect) (p : Pt) → (cells (pos 1) rs p ≡ pos 0 → ⊥) → Covers rs p
sum-covered [] p none = absurd (none refl)
sum-covered (r ∷ rs) p none =
    let rest : (cells (pos 1) rs p ≡ pos 0 → ⊥) → Covers rs p = sum-covered rs p in
    sum-cases r rs p (has_square r p) refl none rest

pub adds-none : (a b : ℤ) (old : List Edge) → AddsRects a b old old []
adds-none a b old =
    record {
      sums_a = λ p. omega (arith, ints);
      sums_b = λ p. omega (arith, ints);
      units = λ h. h;
      keeps = λ e h. h;
      ends = λ r r_in. absurd (Contains-nil r r_in);
    }

one_rect : (r s : Rect) → Contains (r ∷ []) s → r ≡ s
one_rect r s h = elim (Contains-cases r s [] h) [ inl e ↦ e | inr later ↦ absurd (Contains-nil s later) ]

pub adds-empty : (a b : ℤ) (old : List Edge) (r : Rect) → r.x1 ≤ℤ r.x0 → AddsRects a b old old (r ∷ [])
adds-empty a b old r none =
    let out : (p : Pt) → has_square r p ≡ false = λ p. has_square-no r p (λ h. (let l = h.left in let k = h.right in omega (arith, ints, l, k, none))) in
    record {
      sums_a = λ p. rw (out p) (omega (arith, ints));
      sums_b = λ p. rw (out p) (omega (arith, ints));
      units = λ h. h;
      keeps = λ e h. h;
      ends = λ s s_in. inl (subst (λ t. let u : Rect = t in u.x1 ≤ℤ u.x0) (one_rect r s s_in) none);
    }

-- a rectangle's two edges
two_parts : (change : Edge → ℤ) (a : ℤ) (e f : Edge) (r : Rect) (p : Pt) → r.x0 <ℤ r.x1 → e.x ≡ r.x0 → f.x ≡ r.x1
    → (e.y0 ≡ r.y0) × (e.y1 ≡ r.y1) → (f.y0 ≡ r.y0) × (f.y1 ≡ r.y1) → change e ≡ a → change f ≡ neg_ℤ a
    → part change e p +ℤ part change f p ≡ cond (has_square r p) a (pos 0)
two_parts change a e f r p wide ex fx (ey0, ey1) (fy0, fy1) ea fa =
    by_lt_z p.y r.y0
    (λ l. (let u = part-off change e p (inl (omega (arith, ints, l, ey0))) in let v = part-off change f p (inl (omega (arith, ints, l, fy0))) in
    rw (has_square-no r p (λ h. (let k = h.low in omega (arith, ints, k, l)))) (omega (arith, ints, u, v))))
    (λ low. by_lt_z p.y r.y1
    (λ high. by_lt_z p.x r.x0
    (λ l. (let u = part-before change e p (omega (arith, ints, l, ex)) in let v = part-before change f p (omega (arith, ints, l, fx, wide)) in
    rw (has_square-no r p (λ h. (let k = h.left in omega (arith, ints, k, l)))) (omega (arith, ints, u, v))))
    (λ left. by_lt_z p.x r.x1
    (λ right. (let u = part-on change e p (omega (arith, ints, low, ey0), omega (arith, ints, high, ey1))
    (omega (arith, ints, left, ex)) in let v = part-before change f p (omega (arith, ints, right, fx)) in
    rw (has_square-yes r p (record { left = left; right = right; low = low; high = high })) (omega (arith, ints, u, v, ea))))
    (λ m. (let u = part-on change e p (omega (arith, ints, low, ey0), omega (arith, ints, high, ey1)) (omega (arith, ints, left, ex)) in
    let v = part-on change f p (omega (arith, ints, low, fy0), omega (arith, ints, high, fy1)) (omega (arith, ints, m, fx)) in
    rw (has_square-no r p (λ h. (let k = h.right in omega (arith, ints, k, m)))) (omega (arith, ints, u, v, ea, fa))))))
    (λ m. (let u = part-off change e p (inr (omega (arith, ints, m, ey1))) in let v = part-off change f p (inr (omega (arith, ints, m, fy1))) in
    rw (has_square-no r p (λ h. (let k = h.high in omega (arith, ints, k, m)))) (omega (arith, ints, u, v)))))

still : (change : Edge → ℤ) (g : Edge) (p : Pt) → change g ≡ pos 0 → part change g p ≡ pos 0
still change g p e = elim (is_left g p) as (λ z. cond z (change g) (pos 0) ≡ pos 0) [ true ↦ e | false ↦ refl ]

-- a rectangle's two edges were added
pub adds-two : (a b : ℤ) (old : List Edge) (r : Rect) (e f : Edge) → unsigned_abs a ≤ 1 → unsigned_abs b ≤ 1 → r.x0 <ℤ r.x1 → e.x ≡ r.x0 → f.x ≡ r.x1
    → (e.y0 ≡ r.y0) × (e.y1 ≡ r.y1) → (f.y0 ≡ r.y0) × (f.y1 ≡ r.y1)
    → e.a ≡ a → f.a ≡ neg_ℤ a → e.b ≡ b → f.b ≡ neg_ℤ b → AddsRects a b old ((old ++ e ∷ []) ++ f ∷ []) (r ∷ [])
adds-two a b old r e f small_a small_b wide ex fx ey fy ea fa eb fb =
    record {
      sums_a = λ p. (let s = sum_left-push change_a old e p in let t = sum_left-push change_a (old ++ e ∷ []) f p in
          let u = two_parts change_a a e f r p wide ex fx ey fy ea fa in omega (arith, ints, s, t, u));
      sums_b = λ p. (let s = sum_left-push change_b old e p in let t = sum_left-push change_b (old ++ e ∷ []) f p in
          let u = two_parts change_b b e f r p wide ex fx ey fy eb fb in omega (arith, ints, s, t, u));
      units = λ h k k_in. elim (Contains-push_cases (old ++ e ∷ []) f k k_in) [
        | inl before ↦ elim (Contains-push_cases old e k before) [
          | inl there ↦ h k there
          | inr same ↦ subst IsUnitEdge same (record { a = omega (arith, ints, ea, small_a); b = omega (arith, ints, eb, small_b) })
        ]
        | inr same ↦ subst IsUnitEdge same (record { a = omega (arith, ints, fa, small_a); b = omega (arith, ints, fb, small_b) })
      ];
      keeps = λ k k_in. Contains-append_left (old ++ e ∷ []) (f ∷ []) k (Contains-append_left old (e ∷ []) k k_in);
      ends = λ s s_in. inr (f, Contains-push (old ++ e ∷ []) f, fx ∙ ap (λ t. let u : Rect = t in u.x1) (one_rect r s s_in));
    }

-- one edge more, which changes no sum
pub adds-still : (a b : ℤ) (old new : List Edge) (rs : List Rect) (g : Edge) → g.a ≡ pos 0 → g.b ≡ pos 0 → AddsRects a b old new rs
    → AddsRects a b old (new ++ g ∷ []) rs
adds-still a b old new rs g ga gb f =
    record {
      sums_a = λ p. (let s = f.sums_a p in let v = sum_left-push change_a new g p in let w = still change_a g p ga in omega (arith, ints, s, v, w));
      sums_b = λ p. (let s = f.sums_b p in let v = sum_left-push change_b new g p in let w = still change_b g p gb in omega (arith, ints, s, v, w));
      units = λ h k k_in. elim (Contains-push_cases new g k k_in) [
        | inl before ↦ f.units h k before
        | inr same ↦ subst IsUnitEdge same (record { a = omega (arith, ints, ga); b = omega (arith, ints, gb) })
      ];
      keeps = λ k k_in. Contains-append_left new (g ∷ []) k (f.keeps k k_in);
      ends = λ r r_in. elim (f.ends r r_in) [ inl l ↦ inl l | inr (e, e_in, at) ↦ inr (e, Contains-append_left new (g ∷ []) e e_in, at) ];
    }

pub adds-on : (a b : ℤ) (old mid new : List Edge) (rs ss : List Rect) → AddsRects a b old mid rs → AddsRects a b mid new ss → AddsRects a b old new (rs ++ ss)
adds-on a b old mid new rs ss f g =
    record {
      sums_a = λ p. (let s = f.sums_a p in let t = g.sums_a p in let u = cells-append a rs ss p in omega (arith, ints, s, t, u));
      sums_b = λ p. (let s = f.sums_b p in let t = g.sums_b p in let u = cells-append b rs ss p in omega (arith, ints, s, t, u));
      units = λ h. g.units (f.units h);
      keeps = λ e e_in. g.keeps e (f.keeps e e_in);
      ends = λ r r_in. elim (Contains-append_cases rs ss r r_in) [
        | inl left ↦ elim (f.ends r left) [ inl l ↦ inl l | inr (e, e_in, at) ↦ inr (e, g.keeps e e_in, at) ]
        | inr right ↦ g.ends r right
      ];
    }

pub adds-next : (a b : ℤ) (old mid new : List Edge) (rs : List Rect) (n : ℕ) (r : Rect) → n < length rs → r ≡ get_or rs n r
    → AddsRects a b old mid (take n rs) → AddsRects a b mid new (r ∷ []) → AddsRects a b old new (take (n + 1) rs)
adds-next a b old mid new rs n r n_in r_is f g =
    let one : n + 1 ≡ suc n = omega arith in
    let step : take (n + 1) rs ≡ take n rs ++ r ∷ [] = ap (λ k. take k rs) one ∙ (take-suc rs n r n_in ∙ ap (λ s. take n rs ++ s ∷ []) (sym r_is)) in
    rw step (adds-on a b old mid new (take n rs) (r ∷ []) f g)

-- right of all edges the sum is 0
pub adds-closed : (c : ℤ) (a b : ℤ) (old new : List Edge) (rs : List Rect) (p : Pt) → AddsRects a b old new rs → AreLeft new p.x → cells c rs p ≡ pos 0
adds-closed c a b old new rs p f left = cells-none c rs p (λ r r_in has. (
    let l = has.left in
    let k = has.right in
    elim (f.ends r r_in) [
      | inl none ↦ omega (arith, ints, l, k, none)
      | inr (e, e_in, at) ↦ (let m = left e e_in in omega (arith, ints, k, m, at))
    ]))
