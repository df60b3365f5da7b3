-- Near parts of rectangles, and the least of near squares.
use Rattle.std.proofs.Common.{◌≡◌, ℕ, ◌<◌, ◌≤◌, ◌+◌, ◌⊎◌, inl, inr, sym, ap, ◌∙◌, subst, arith, List, length, get_or, Option, Some, None}
use Rattle.std.specs.Prelude.{ℤ, pos, ◌+ℤ◌, ◌≤ℤ◌, ◌<ℤ◌}
use Rattle.std.proofs.lemmas.Int.{ints, by_lt_z}
use Rattle.std.proofs.lemmas.Bool.{cases_eq}
use Rattle.std.proofs.lemmas.List.{get_or_default}
use Rattle.dpl_spec_split.specs.declared.Spacing.{Spacing}
use Rattle.dpl_spec_split.specs.declared.Pt.{Pt}
use Rattle.dpl_spec_split.specs.declared.Rect.{Rect}
use Rattle.dpl_spec_split.specs.Squares.{Region, Has, Covers, Precedes, IsLeast, AreNear}
use Rattle.dpl_spec_split.specs.Zones.{at}
use Rattle.dpl_nearest.specs.Search.{near_part, row_at, rows_below, column_at, columns_left, IsLeastNear, IsLowered, IsImproved, CoversFirst}

pub same_square : (p q : Pt) → p.x ≡ q.x → p.y ≡ q.y → p ≡ q
same_square p q e f = ap (λ x. at x p.y) e ∙ ap (λ y. at q.x y) f

-- a near square below the row above y, and none below y: one in row y
pub near_row : (spacing : Spacing) (r : Rect) (b : Region) (low high : ℤ) → r.y0 ≤ℤ low → high ≤ℤ (low +ℤ pos 1)
    → (AreNear spacing (Has (rows_below r low)) b → ⊥) → AreNear spacing (Has (rows_below r high)) b → AreNear spacing (Has (row_at r low)) b
near_row spacing r b low high from to none (p, q, h, in_b, close) =
    by_lt_z p.y low
    (λ lower. absurd (none (p, q, record { left = h.left; right = h.right; low = h.low; high = lower }, in_b, close)))
    (λ upper. (p, q, record { left = h.left; right = h.right; low = upper; high = let top : p.y <ℤ high = h.high in omega (arith, ints, top, to) }, in_b, close))

pub near_column : (spacing : Spacing) (r : Rect) (b : Region) (low high : ℤ) → r.x0 ≤ℤ low → high ≤ℤ (low +ℤ pos 1)
    → (AreNear spacing (Has (columns_left r low)) b → ⊥) → AreNear spacing (Has (columns_left r high)) b → AreNear spacing (Has (column_at r low)) b
near_column spacing r b low high from to none (p, q, h, in_b, close) =
    by_lt_z p.x low
    (λ lower. absurd (none (p, q, record { left = h.left; right = lower; low = h.low; high = h.high }, in_b, close)))
    (λ upper. (p, q, record { left = upper; right = let top : p.x <ℤ high = h.right in omega (arith, ints, top, to); low = h.low; high = h.high }, in_b, close))

-- no rows, no near square
pub no_rows : (spacing : Spacing) (r : Rect) (b : Region) → AreNear spacing (Has (rows_below r r.y0)) b → ⊥
no_rows spacing r b (p, q, h, in_b, close) = let low : r.y0 ≤ℤ p.y = h.low in let high : p.y <ℤ r.y0 = h.high in omega (arith, ints)

pub no_columns : (spacing : Spacing) (r : Rect) (b : Region) → AreNear spacing (Has (columns_left r r.x0)) b → ⊥
no_columns spacing r b (p, q, h, in_b, close) = let low : r.x0 ≤ℤ p.x = h.left in let high : p.x <ℤ r.x0 = h.right in omega (arith, ints)

-- the first column of the first row
pub least_square : (spacing : Spacing) (r : Rect) (b : Region) (x y : ℤ) → r.y0 ≤ℤ y → y <ℤ r.y1 → r.x0 ≤ℤ x → x <ℤ r.x1
    → AreNear spacing (Has (column_at (row_at r y) x)) b
    → (AreNear spacing (Has (columns_left (row_at r y) x)) b → ⊥)
    → (AreNear spacing (Has (rows_below r y)) b → ⊥)
    → IsLeast (near_part spacing (Has r) b) (at x y)
least_square spacing r b x y y_low y_high x_low x_high (p, q, h, in_b, close) no_left no_below =
    let a : x ≤ℤ p.x = h.left in
    let a' : p.x <ℤ (x +ℤ pos 1) = h.right in
    let b' : y ≤ℤ p.y = h.low in
    let b'' : p.y <ℤ (y +ℤ pos 1) = h.high in
    let is : p ≡ at x y = same_square p (at x y) (omega (arith, ints)) (omega (arith, ints)) in
    record {
      inside = subst (λ u. near_part spacing (Has r) b u) is
          (record { left = omega (arith, ints); right = omega (arith, ints); low = omega (arith, ints); high = omega (arith, ints) }, (q, in_b, close));
      first = λ s (s_in, (t, t_in, near)).
          by_lt_z s.y y
          (λ under. absurd (no_below (s, t, record { left = s_in.left; right = s_in.right; low = s_in.low; high = under }, t_in, near)))
          (λ from. by_lt_z y s.y
          (λ over. inr (inl over))
          (λ upto. by_lt_z s.x x
          (λ before. absurd (no_left (s, t, record { left = s_in.left; right = before; low = from; high = omega (arith, ints, upto) }, t_in, near)))
          (λ after. by_lt_z x s.x
          (λ beyond. inr (inr (omega (arith, ints, from, upto), beyond)))
          (λ there. inl (same_square (at x y) s (omega (arith, ints, after, there)) (omega (arith, ints, from, upto)))))));
    }

-- the same, with the row by its rectangle
pub least_square_in : (spacing : Spacing) (r row : Rect) (b : Region) (x y : ℤ) → row ≡ row_at r y → r.y0 ≤ℤ y → y <ℤ r.y1 → row.x0 ≤ℤ x → x <ℤ row.x1
    → AreNear spacing (Has (column_at row x)) b
    → (AreNear spacing (Has (columns_left row x)) b → ⊥)
    → (AreNear spacing (Has (rows_below r y)) b → ⊥)
    → IsLeast (near_part spacing (Has r) b) (at x y)
least_square_in spacing r row b x y e low high =
    let P : Rect → Type 0 = λ (u : Rect). u.x0 ≤ℤ x → x <ℤ u.x1 → AreNear spacing (Has (column_at u x)) b
    → (AreNear spacing (Has (columns_left u x)) b → ⊥) → (AreNear spacing (Has (rows_below r y)) b → ⊥)
    → IsLeast (near_part spacing (Has r) b) (at x y) in
    subst P (sym e) (λ left right near first none. least_square spacing r b x y low high left right near first none)

pub Precedes-trans : (p q r : Pt) → Precedes p q → Precedes q r → Precedes p r
Precedes-trans p q r (inl h) (inl k) = inl (omega (arith, ints))
Precedes-trans p q r (inl h) (inr k) = inl (omega (arith, ints))
Precedes-trans p q r (inr h) (inl k) = inl (omega (arith, ints))
Precedes-trans p q r (inr h) (inr k) = inr (h.0 ∙ k.0, omega (arith, ints))

pub Precedes-total : (p q : Pt) → (Precedes q p → ⊥) → (p ≡ q) ⊎ Precedes p q
Precedes-total p q never =
    by_lt_z p.y q.y
    (λ h. inr (inl h))
    (λ h. by_lt_z q.y p.y
    (λ k. absurd (never (inl k)))
    (λ k. let row : p.y ≡ q.y = omega (arith, ints, h, k) in by_lt_z p.x q.x
    (λ l. inr (inr (row, l)))
    (λ l. by_lt_z q.x p.x
    (λ m. absurd (never (inr (sym row, m))))
    (λ m. inl (same_square p q (omega (arith, ints, l, m)) row)))))

-- p is q or precedes it
abbrev pub IsUpTo : Pt → Pt → Type 0
IsUpTo p q = (p ≡ q) ⊎ Precedes p q

pub up_to-trans : (p q r : Pt) → IsUpTo p q → IsUpTo q r → IsUpTo p r
up_to-trans p q r (inl e) k = subst (λ u. IsUpTo u r) (sym e) k
up_to-trans p q r (inr h) (inl f) = subst (λ u. IsUpTo p u) f (inr h)
up_to-trans p q r (inr h) (inr k) = inr (Precedes-trans p q r h k)

-- the first of an old square and of the least near one
pub lowered_to : (spacing : Spacing) (a b : Region) (p q n : Pt) → IsLeast (near_part spacing a b) q → ((n ≡ p) × (Precedes q p → ⊥)) ⊎ ((n ≡ q) × Precedes q p) → IsLowered spacing a b p n
lowered_to spacing a b p q n least (inl (e, never)) =
    let up : IsUpTo n q = subst (λ u. IsUpTo u q) (sym e) (Precedes-total p q never) in
    record { is = inl e; before = inl e; first = λ s h. up_to-trans n q s up (least.first s h) }
lowered_to spacing a b p q n least (inr (e, before)) = record {
  is = inr (subst (λ u. near_part spacing a b u) (sym e) least.inside);
  before = inr (subst (λ u. Precedes u p) (sym e) before);
  first = λ s h. subst (λ u. IsUpTo u s) (sym e) (least.first s h);
}

-- a set is another one and a rectangle
pub least_joined : (spacing : Spacing) (a b c : Region) (r : Rect) (old new : Option Pt)
    → ((p : Pt) → c p → a p ⊎ Has r p) → ((p : Pt) → a p → c p) → ((p : Pt) → Has r p → c p)
    → IsLeastNear spacing a b old → IsImproved spacing (Has r) b old new → IsLeastNear spacing c b new
least_joined spacing a b c r None None split wide has far none = λ (p, q, p_in, q_in, close).
    elim (split p p_in) [ inl h ↦ far (p, q, h, q_in, close) | inr h ↦ none (p, q, h, q_in, close) ]
least_joined spacing a b c r None (Some m) split wide has far least = record {
  inside = (has m least.inside.0, least.inside.1);
  first = λ q (q_in, (t, t_in, close)). elim (split q q_in) [ inl h ↦ absurd (far (q, t, h, t_in, close)) | inr h ↦ least.first q (h, (t, t_in, close)) ];
}
least_joined spacing a b c r (Some p) None split wide has least bad = absurd bad
least_joined spacing a b c r (Some p) (Some m) split wide has least low = record {
  inside = elim low.is [
    | inl e ↦ subst (λ u. near_part spacing c b u) (sym e) (wide p least.inside.0, least.inside.1)
    | inr h ↦ (has m h.0, h.1)
  ];
  first = λ q (q_in, near). elim (split q q_in) [
    | inl h ↦ up_to-trans m p q low.before (least.first q (h, near))
    | inr h ↦ low.first q (h, near)
  ];
}

-- one rectangle more
pub least_more : (spacing : Spacing) (rs : List Rect) (b : Region) (n : ℕ) (d : Rect) (old new : Option Pt) → n < length rs
    → IsLeastNear spacing (CoversFirst n rs) b old → IsImproved spacing (Has (get_or rs n d)) b old new → IsLeastNear spacing (CoversFirst (n + 1) rs) b new
least_more spacing rs b n d old new n_in =
    least_joined spacing (CoversFirst n rs) b (CoversFirst (n + 1) rs) (get_or rs n d) old new
    (λ p (k, s, k_low, k_in, k_is, h). elim (cases_eq k n) [
      | inl e ↦ inr (subst (λ (u : Rect). Has u p) (sym k_is ∙ ap (λ m. get_or rs m s) e ∙ get_or_default rs n s d n_in) h)
      | inr ne ↦ inl (k, s, omega (arith, k_low, ne), k_in, k_is, h)
    ])
    (λ p (k, s, k_low, k_in, k_is, h). (k, s, omega (arith, k_low), k_in, k_is, h))
    (λ p h. (n, get_or rs n d, omega arith, n_in, get_or_default rs n (get_or rs n d) d n_in, h))

pub least_same : (spacing : Spacing) (a b c : Region) (old : Option Pt) → ((p : Pt) → a p → c p) → ((p : Pt) → c p → a p) → IsLeastNear spacing a b old → IsLeastNear spacing c b old
least_same spacing a b c None to from far = λ (p, q, p_in, q_in, close). far (p, q, from p p_in, q_in, close)
least_same spacing a b c (Some m) to from least = record {
  inside = (to m least.inside.0, least.inside.1);
  first = λ q (q_in, near). least.first q (from q q_in, near);
}

pub least_whole : (spacing : Spacing) (rs : List Rect) (b : Region) (n : ℕ) (old : Option Pt) → length rs ≤ n
    → IsLeastNear spacing (CoversFirst n rs) b old → IsLeastNear spacing (Covers rs) b old
least_whole spacing rs b n old all = least_same spacing (CoversFirst n rs) b (Covers rs) old
    (λ p (k, s, k_low, k_in, k_is, h). (k, s, k_in, k_is, h))
    (λ p (k, s, k_in, k_is, h). (k, s, omega (arith, all, k_in), k_in, k_is, h))
