-- The least near square of two rectangles from their gaps, and of a list of rectangles one by one.
use Rattle.std.proofs.Common.{◌≡◌, ℕ, ◌<◌, ◌≤◌, ◌+◌, ◌⊎◌, inl, inr, sym, ap, ◌∙◌, subst, arith, List, length, get_or, Option, Some, None, FitsSigned, w32, to_z, of_z}
use Rattle.std.specs.Prelude.{ℤ, pos, ◌+ℤ◌, ◌-ℤ◌, ◌≤ℤ◌, ◌<ℤ◌}
use Rattle.std.proofs.lemmas.Int.{ints, by_lt_z, to_z-of_z}
use Rattle.std.proofs.lemmas.Bool.{cases_lt, cases_eq}
use Rattle.std.proofs.lemmas.List.{get_or_default}
use Rattle.dpl_spec_split.specs.declared.Spacing.{Spacing}
use Rattle.dpl_spec_split.specs.declared.Pt.{Pt}
use Rattle.dpl_spec_split.specs.declared.Rect.{Rect}
use Rattle.dpl_spec_split.specs.Squares.{Region, Covers, Has, gap, IsLeast, AreNear, Near, TooFew, IsReach}
use Rattle.dpl_spec_split.specs.Zones.{at}
use Rattle.dpl_spec_split.proofs.SpacingLaws.{few-below, few-less, few-swapped}
use Rattle.dpl_base.specs.Spans.{InSpan, IsSpanGap}
use Rattle.dpl_base.proofs.SpanLaws.{span-gap-as}
use Rattle.dpl_nearest.specs.Search.{near_part, FitsIn32Bits, IsLeastNear, CoversFirst}
use Rattle.dpl_nearest.specs.Few.{IsWithin, IsFirstWithin, IsFirstOf}
use Rattle.dpl_nearest.proofs.ItemLaws.{least-beside}
use Rattle.dpl_nearest.proofs.NearLaws.{same_square, up_to-trans, Precedes-total}

-- ---- the first column within a distance

pub none-left : (a0 a1 b0 b1 : ℤ) (most : ℕ) → (b1 +ℤ pos most) <ℤ a0 → IsFirstWithin a0 a1 b0 b1 most None
none-left a0 a1 b0 b1 most far i i_in (j, j_in, near) = let a = i_in.from in let b = j_in.below in omega (arith, ints, far, a, b, near)

pub none-right : (a0 a1 b0 b1 : ℤ) (most : ℕ) → a1 ≤ℤ ((b0 -ℤ pos 1) -ℤ pos most) → IsFirstWithin a0 a1 b0 b1 most None
none-right a0 a1 b0 b1 most far i i_in (j, j_in, near) = let a = i_in.below in let b = j_in.from in omega (arith, ints, far, a, b, near)

-- a column no farther right than so many columns, and no farther left
within-of : (b0 b1 : ℤ) (most : ℕ) (i : ℤ) → b0 <ℤ b1 → ((b0 -ℤ pos 1) -ℤ pos most) ≤ℤ i → i ≤ℤ (b1 +ℤ pos most) → IsWithin b0 b1 most i
within-of b0 b1 most i some low high =
    by_lt_z i b0
    (λ left. (b0, record { from = omega (arith, ints); below = some }, omega (arith, ints, low, left)))
    (λ from. by_lt_z i b1
    (λ inside. (i, record { from = from; below = inside }, omega (arith, ints)))
    (λ right. (b1 -ℤ pos 1, record { from = omega (arith, ints, some); below = omega (arith, ints) }, omega (arith, ints, high, right))))

pub first-here : (a0 a1 b0 b1 i : ℤ) (most : ℕ) → i ≡ a0 → a0 <ℤ a1 → b0 <ℤ b1 → ((b0 -ℤ pos 1) -ℤ pos most) <ℤ a0 → a0 ≤ℤ (b1 +ℤ pos most)
    → IsFirstWithin a0 a1 b0 b1 most (Some i)
first-here a0 a1 b0 b1 i most is some_a some_b low high = subst (λ k. IsFirstWithin a0 a1 b0 b1 most (Some k)) (sym is) (
  record { from = omega (arith, ints); below = some_a },
  within-of b0 b1 most a0 some_b (omega (arith, ints, low)) high,
  λ k k_in near. k_in.from,
)

first-there : (a0 a1 b0 b1 i : ℤ) (most : ℕ) → i ≡ (b0 -ℤ pos 1) -ℤ pos most → b0 <ℤ b1 → a0 ≤ℤ i → i <ℤ a1 → IsFirstWithin a0 a1 b0 b1 most (Some i)
first-there a0 a1 b0 b1 i most is some_b low high = (
  record { from = low; below = high },
  within-of b0 b1 most i some_b (omega (arith, ints, is)) (omega (arith, ints, is, some_b)),
  λ k k_in (j, j_in, near). let b = j_in.from in omega (arith, ints, is, near, b),
)

-- the same, of a number of 64 bits that is returned as one of 32
pub first-there-short : (a0 a1 b0 b1 i : ℤ) (most : ℕ) → FitsSigned w32 a0 → FitsSigned w32 a1 → i ≡ (b0 -ℤ pos 1) -ℤ pos most → b0 <ℤ b1 → a0 ≤ℤ i → i <ℤ a1
    → IsFirstWithin a0 a1 b0 b1 most (Some (to_z w32 (of_z w32 i)))
first-there-short a0 a1 b0 b1 i most low_fits high_fits is some_b low high =
    let fits : FitsSigned w32 i = omega (arith, ints, low, high, low_fits, high_fits) in
    subst (λ k. IsFirstWithin a0 a1 b0 b1 most (Some k)) (sym (to_z-of_z w32 i fits)) (first-there a0 a1 b0 b1 i most is some_b low high)

-- ---- two rectangles

columns-of : (r : Rect) (p : Pt) → Has r p → InSpan r.x0 r.x1 p.x
columns-of r p h = record { from = h.left; below = h.right }

rows-of : (r : Rect) (p : Pt) → Has r p → InSpan r.y0 r.y1 p.y
rows-of r p h = record { from = h.low; below = h.high }

-- too few are at most the reach
within-reach : (spacing : Spacing) (m n r : ℕ) → spacing.corner ≤ spacing.rule → IsReach spacing n r → TooFew spacing m n → m ≤ r
within-reach spacing m n r less reach few = elim (cases_lt r m) [
  | inl more ↦ absurd (reach.far (few-less spacing (r + 1) n m n less (omega (arith, more)) (omega arith) few))
  | inr upto ↦ upto
]

-- no rows reach across so many columns
pub far-across : (spacing : Spacing) (r s : Rect) (across : ℕ) → spacing.corner ≤ spacing.rule → IsSpanGap r.x0 r.x1 s.x0 s.x1 across → spacing.rule ≤ across
    → AreNear spacing (Has r) (Has s) → ⊥
far-across spacing r s across less gaps far (p, q, p_in, q_in, near) =
    let least = gaps.least p.x q.x (columns-of r p p_in) (columns-of s q q_in) in
    let few = (few-below spacing (gap p.x q.x) (gap p.y q.y) less near).0 in
    omega (arith, least, few, far)

-- a near square lies within the reach of the rows of the other rectangle
near-within : (spacing : Spacing) (r s : Rect) (across rows : ℕ) → spacing.corner ≤ spacing.rule → IsSpanGap r.x0 r.x1 s.x0 s.x1 across → IsReach spacing across rows
    → (p q : Pt) → Has r p → Has s q → Near spacing p q → IsWithin s.y0 s.y1 rows p.y
near-within spacing r s across rows less gaps reach p q p_in q_in near =
    let least = gaps.least p.x q.x (columns-of r p p_in) (columns-of s q q_in) in
    let few = few-less spacing across (gap p.y q.y) (gap p.x q.x) (gap p.y q.y) less least (omega arith) near in
    (q.y, rows-of s q q_in, within-reach spacing (gap p.y q.y) across rows less reach (few-swapped spacing across (gap p.y q.y) few))

pub no-row : (spacing : Spacing) (r s : Rect) (across rows : ℕ) → spacing.corner ≤ spacing.rule → IsSpanGap r.x0 r.x1 s.x0 s.x1 across → IsReach spacing across rows
    → IsFirstWithin r.y0 r.y1 s.y0 s.y1 rows None → AreNear spacing (Has r) (Has s) → ⊥
no-row spacing r s across rows less gaps reach none (p, q, p_in, q_in, near) =
    none p.y (rows-of r p p_in) (near-within spacing r s across rows less gaps reach p q p_in q_in near)

-- so many columns and the rows from the first row within reach on are too few
reached-few : (spacing : Spacing) (s : Rect) (y : ℤ) (across rows up : ℕ) → spacing.corner ≤ spacing.rule → IsReach spacing across rows → IsWithin s.y0 s.y1 rows y
    → IsSpanGap y (y +ℤ pos 1) s.y0 s.y1 up → TooFew spacing across up
reached-few spacing s y across rows up less reach (j, j_in, j_near) gaps =
    let itself : InSpan y (y +ℤ pos 1) y = record { from = omega (arith, ints); below = omega (arith, ints) } in
    let least = gaps.least y j itself j_in in
    few-less spacing across up across rows less (omega arith) (omega (arith, least, j_near)) (few-swapped spacing rows across reach.near)

pub no-columns : (spacing : Spacing) (s : Rect) (y : ℤ) (across rows up : ℕ) → spacing.corner ≤ spacing.rule → IsReach spacing across rows → IsWithin s.y0 s.y1 rows y
    → IsSpanGap y (y +ℤ pos 1) s.y0 s.y1 up → spacing.rule ≤ up → ⊥
no-columns spacing s y across rows up less reach row gaps far =
    let few = (few-below spacing across up less (reached-few spacing s y across rows up less reach row gaps)).1 in
    omega (arith, few, far)

pub no-column : (spacing : Spacing) (r s : Rect) (y : ℤ) (across rows up columns : ℕ) → spacing.corner ≤ spacing.rule → IsSpanGap r.x0 r.x1 s.x0 s.x1 across
    → IsReach spacing across rows → IsWithin s.y0 s.y1 rows y → IsSpanGap y (y +ℤ pos 1) s.y0 s.y1 up → IsReach spacing up columns
    → IsFirstWithin r.x0 r.x1 s.x0 s.x1 columns None → ⊥
no-column spacing r s y across rows up columns less sides reach row gaps reach_row none =
    let (i, j, i_in, j_in, is) = sides.reached in
    let upto = within-reach spacing across up columns less reach_row (reached-few spacing s y across rows up less reach row gaps) in
    none i i_in (j, j_in, omega (arith, is, upto))

-- the row of one square
row-gap : (y : ℤ) (i : ℤ) → InSpan y (y +ℤ pos 1) i → i ≡ y
row-gap y i h = let a = h.from in let b = h.below in omega (arith, ints, a, b)

pub least-near : (spacing : Spacing) (r s : Rect) (x y : ℤ) (across rows up columns : ℕ) → spacing.corner ≤ spacing.rule → IsSpanGap r.x0 r.x1 s.x0 s.x1 across
    → IsReach spacing across rows → IsFirstWithin r.y0 r.y1 s.y0 s.y1 rows (Some y) → IsSpanGap y (y +ℤ pos 1) s.y0 s.y1 up → IsReach spacing up columns
    → IsFirstWithin r.x0 r.x1 s.x0 s.x1 columns (Some x) → IsLeast (near_part spacing (Has r) (Has s)) (at x y)
least-near spacing r s x y across rows up columns less sides reach (y_in, y_near, y_first) gaps reach_row (x_in, (j, j_in, j_near), x_first) =
    let (i, k, i_in, k_in, is) = gaps.reached in
    let up_is : gap y k ≡ up = ap (λ n. gap n k) (sym (row-gap y i i_in)) ∙ is in
    record {
      inside = (
        record { left = x_in.from; right = x_in.below; low = y_in.from; high = y_in.below },
        (
          at j k,
          record { left = j_in.from; right = j_in.below; low = k_in.from; high = k_in.below },
          few-less spacing (gap x j) (gap y k) columns up less j_near (omega (arith, up_is)) reach_row.near,
        ),
      );
      first = λ p (p_in, (q, q_in, near)).
          let up_to : y ≤ℤ p.y = y_first p.y (rows-of r p p_in) (near-within spacing r s across rows less sides reach p q p_in q_in near) in
          by_lt_z y p.y
          (λ over. inr (inl over))
          (λ upto.
          let row : y ≡ p.y = omega (arith, ints, up_to, upto) in
          let least : up ≤ gap p.y q.y = gaps.least p.y q.y (record { from = omega (arith, ints, row); below = omega (arith, ints, row) }) (rows-of s q q_in) in
          let few = few-less spacing (gap p.x q.x) up (gap p.x q.x) (gap p.y q.y) less (omega arith) least near in
          let from : x ≤ℤ p.x = x_first p.x (columns-of r p p_in) (q.x, columns-of s q q_in, within-reach spacing (gap p.x q.x) up columns less reach_row few) in
          by_lt_z x p.x
          (λ beyond. inr (inr (row, beyond)))
          (λ there. inl (same_square (at x y) p (omega (arith, ints, from, there)) row)));
    }

-- ---- numbers as calls are passed them

abbrev passed : ℤ → ℤ
passed z = to_z w32 (of_z w32 z)

pub across-as : (r s : Rect) (n : ℕ) → FitsIn32Bits r → FitsIn32Bits s → IsSpanGap (passed r.x0) (passed r.x1) (passed s.x0) (passed s.x1) n → IsSpanGap r.x0 r.x1 s.x0 s.x1 n
across-as r s n f g h = span-gap-as r.x0 r.x1 s.x0 s.x1 h (to_z-of_z w32 r.x0 f.left) (to_z-of_z w32 r.x1 f.right) (to_z-of_z w32 s.x0 g.left) (to_z-of_z w32 s.x1 g.right)

first-as : (a0 a1 b0 b1 c0 c1 d0 d1 : ℤ) (most : ℕ) (found : Option ℤ) → a0 ≡ c0 → a1 ≡ c1 → b0 ≡ d0 → b1 ≡ d1
    → IsFirstWithin a0 a1 b0 b1 most found → IsFirstWithin c0 c1 d0 d1 most found
first-as a0 a1 b0 b1 c0 c1 d0 d1 most found a b c d h = rw (← a, ← b, ← c, ← d) h

pub row-as : (r s : Rect) (most : ℕ) (found : Option ℤ) → FitsIn32Bits r → FitsIn32Bits s
    → IsFirstWithin (passed r.y0) (passed r.y1) (passed s.y0) (passed s.y1) most found → IsFirstWithin r.y0 r.y1 s.y0 s.y1 most found
row-as r s most found f g h = first-as _ _ _ _ r.y0 r.y1 s.y0 s.y1 most found (to_z-of_z w32 r.y0 f.low) (to_z-of_z w32 r.y1 f.high) (to_z-of_z w32 s.y0 g.low) (to_z-of_z w32 s.y1 g.high) h

pub column-as : (r s : Rect) (most : ℕ) (found : Option ℤ) → FitsIn32Bits r → FitsIn32Bits s
    → IsFirstWithin (passed r.x0) (passed r.x1) (passed s.x0) (passed s.x1) most found → IsFirstWithin r.x0 r.x1 s.x0 s.x1 most found
column-as r s most found f g h = first-as _ _ _ _ r.x0 r.x1 s.x0 s.x1 most found (to_z-of_z w32 r.x0 f.left) (to_z-of_z w32 r.x1 f.right) (to_z-of_z w32 s.x0 g.left) (to_z-of_z w32 s.x1 g.right) h

-- a row of a rectangle, and the one above it
pub row-fits : (r : Rect) (y : ℤ) → FitsIn32Bits r → InSpan r.y0 r.y1 y → FitsSigned w32 y
row-fits r y f y_in = let a = y_in.from in let b = y_in.below in let l = f.low in let h = f.high in omega (arith, ints, a, b, l, h)

pub next-fits : (r : Rect) (y : ℤ) → FitsIn32Bits r → InSpan r.y0 r.y1 y → FitsSigned w32 (y +ℤ pos 1)
next-fits r y f y_in = let a = y_in.from in let b = y_in.below in let l = f.low in let h = f.high in omega (arith, ints, a, b, l, h)

pub column-fits : (r : Rect) (x : ℤ) → FitsIn32Bits r → InSpan r.x0 r.x1 x → FitsSigned w32 x
column-fits r x f x_in = let a = x_in.from in let b = x_in.below in let l = f.left in let h = f.right in omega (arith, ints, a, b, l, h)

pub up-as : (r s : Rect) (y : ℤ) (n : ℕ) → FitsIn32Bits r → FitsIn32Bits s → InSpan r.y0 r.y1 y
    → IsSpanGap (passed y) (passed (passed y +ℤ pos 1)) (passed s.y0) (passed s.y1) n → IsSpanGap y (y +ℤ pos 1) s.y0 s.y1 n
up-as r s y n f g y_in h = span-gap-as y (y +ℤ pos 1) s.y0 s.y1 h (to_z-of_z w32 y (row-fits r y f y_in))
    (ap (λ z. passed (z +ℤ pos 1)) (to_z-of_z w32 y (row-fits r y f y_in)) ∙ to_z-of_z w32 (y +ℤ pos 1) (next-fits r y f y_in))
    (to_z-of_z w32 s.y0 g.low) (to_z-of_z w32 s.y1 g.high)

-- ---- one rectangle more

-- the near squares of one pair of sets are those of two others
pub least-both : (spacing : Spacing) (a b c d e f : Region) (p q n : Option Pt)
    → ((s : Pt) → near_part spacing e f s → near_part spacing a b s ⊎ near_part spacing c d s)
    → ((s : Pt) → near_part spacing a b s → near_part spacing e f s) → ((s : Pt) → near_part spacing c d s → near_part spacing e f s)
    → IsLeastNear spacing a b p → IsLeastNear spacing c d q → IsFirstOf p q n → IsLeastNear spacing e f n
least-both spacing a b c d e f None None n split one other far none is = subst (λ u. IsLeastNear spacing e f u) (sym is) (λ (s, t, s_in, t_in, near).
    elim (split s (s_in, (t, t_in, near))) [
      | inl (h, (u, u_in, close)) ↦ far (s, u, h, u_in, close)
      | inr (h, (u, u_in, close)) ↦ none (s, u, h, u_in, close)
    ])
least-both spacing a b c d e f None (Some m) n split one other far least is = subst (λ u. IsLeastNear spacing e f u) (sym is) (record {
  inside = other m least.inside;
  first = λ s h. elim (split s h) [ inl (k, (u, u_in, close)) ↦ absurd (far (s, u, k, u_in, close)) | inr k ↦ least.first s k ];
})
least-both spacing a b c d e f (Some m) None n split one other least far is = subst (λ u. IsLeastNear spacing e f u) (sym is) (record {
  inside = one m least.inside;
  first = λ s h. elim (split s h) [ inl k ↦ least.first s k | inr (k, (u, u_in, close)) ↦ absurd (far (s, u, k, u_in, close)) ];
})
least-both spacing a b c d e f (Some p) (Some q) None split one other first second bad = absurd bad
least-both spacing a b c d e f (Some p) (Some q) (Some n) split one other first second (inl (is, never)) = subst (λ u. IsLeast (near_part spacing e f) u) (sym is) (record {
  inside = one p first.inside;
  first = λ s h. elim (split s h) [ inl k ↦ first.first s k | inr k ↦ up_to-trans p q s (Precedes-total p q never) (second.first s k) ];
})
least-both spacing a b c d e f (Some p) (Some q) (Some n) split one other first second (inr (is, before)) = subst (λ u. IsLeast (near_part spacing e f) u) (sym is) (record {
  inside = other q second.inside;
  first = λ s h. elim (split s h) [ inl k ↦ up_to-trans q p s (inr before) (first.first s k) | inr k ↦ second.first s k ];
})

-- one rectangle more, or the first ones
one-more : (rs : List Rect) (n : ℕ) (d : Rect) (p : Pt) → n < length rs → CoversFirst (n + 1) rs p → CoversFirst n rs p ⊎ Has (get_or rs n d) p
one-more rs n d p n_in (k, s, k_low, k_in, k_is, h) = elim (cases_eq k n) [
  | inl e ↦ inr (subst (λ (u : Rect). Has u p) (sym k_is ∙ ap (λ m. get_or rs m s) e ∙ get_or_default rs n s d n_in) h)
  | inr ne ↦ inl (k, s, omega (arith, k_low, ne), k_in, k_is, h)
]

first-more : (rs : List Rect) (n : ℕ) (p : Pt) → CoversFirst n rs p → CoversFirst (n + 1) rs p
first-more rs n p (k, s, k_low, k_in, k_is, h) = (k, s, omega (arith, k_low), k_in, k_is, h)

last-more : (rs : List Rect) (n : ℕ) (d : Rect) (p : Pt) → n < length rs → Has (get_or rs n d) p → CoversFirst (n + 1) rs p
last-more rs n d p n_in h = (n, get_or rs n d, omega arith, n_in, get_or_default rs n (get_or rs n d) d n_in, h)

-- one of the rectangles whose near squares are sought
pub least-one-more : (spacing : Spacing) (rs : List Rect) (b : Region) (n : ℕ) (d : Rect) (old one new : Option Pt) → n < length rs
    → IsLeastNear spacing (CoversFirst n rs) b old → IsLeastNear spacing (Has (get_or rs n d)) b one → IsFirstOf old one new → IsLeastNear spacing (CoversFirst (n + 1) rs) b new
least-one-more spacing rs b n d old one new n_in =
    least-both spacing (CoversFirst n rs) b (Has (get_or rs n d)) b (CoversFirst (n + 1) rs) b old one new
    (λ s (s_in, near). elim (one-more rs n d s n_in s_in) [ inl h ↦ inl (h, near) | inr h ↦ inr (h, near) ])
    (λ s (s_in, near). (first-more rs n s s_in, near))
    (λ s (s_in, near). (last-more rs n d s n_in s_in, near))

-- one of the others
pub least-other-more : (spacing : Spacing) (a : Region) (rs : List Rect) (n : ℕ) (d : Rect) (old one new : Option Pt) → n < length rs
    → IsLeastNear spacing a (CoversFirst n rs) old → IsLeastNear spacing a (Has (get_or rs n d)) one → IsFirstOf old one new → IsLeastNear spacing a (CoversFirst (n + 1) rs) new
least-other-more spacing a rs n d old one new n_in =
    least-both spacing a (CoversFirst n rs) a (Has (get_or rs n d)) a (CoversFirst (n + 1) rs) old one new
    (λ s (s_in, (t, t_in, close)). elim (one-more rs n d t n_in t_in) [ inl h ↦ inl (s_in, (t, h, close)) | inr h ↦ inr (s_in, (t, h, close)) ])
    (λ s (s_in, (t, t_in, close)). (s_in, (t, first-more rs n t t_in, close)))
    (λ s (s_in, (t, t_in, close)). (s_in, (t, last-more rs n d t n_in t_in, close)))

pub others-first : (spacing : Spacing) (a : Region) (rs : List Rect) → AreNear spacing a (CoversFirst 0 rs) → ⊥
others-first spacing a rs (p, q, p_in, (k, r, k_low, k_in, k_is, h), close) = omega (arith, k_low)

pub least-other-whole : (spacing : Spacing) (a : Region) (rs : List Rect) (n : ℕ) (old : Option Pt) → length rs ≤ n
    → IsLeastNear spacing a (CoversFirst n rs) old → IsLeastNear spacing a (Covers rs) old
least-other-whole spacing a rs n old all = least-beside spacing a (CoversFirst n rs) (Covers rs) old
    (λ p (k, s, k_low, k_in, k_is, h). (k, s, k_in, k_is, h))
    (λ p (k, s, k_in, k_is, h). (k, s, omega (arith, all, k_in), k_in, k_is, h))
