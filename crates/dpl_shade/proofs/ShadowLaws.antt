-- The rows at which a slab is near a rectangle.
use Rattle.std.proofs.Common.{◌≡◌, ℕ, ◌+◌, ◌*◌, ◌<◌, ◌≤◌, inl, inr, arith}
use Rattle.std.specs.Prelude.{ℤ, pos, ◌+ℤ◌, ◌-ℤ◌, ◌≤ℤ◌, ◌<ℤ◌}
use Rattle.std.proofs.lemmas.Int.{ints, by_lt_z}
use Rattle.std.proofs.lemmas.Bool.{cases_lt}
use Rattle.dpl_spec_split.specs.declared.Spacing.{Spacing}
use Rattle.dpl_spec_split.specs.declared.Pt.{Pt}
use Rattle.dpl_spec_split.specs.declared.Rect.{Rect}
use Rattle.dpl_spec_split.specs.Squares.{gap, TooFew, IsReach}
use Rattle.dpl_spec_split.specs.Zones.{at}
use Rattle.dpl_spec_split.proofs.SpacingLaws.{few-within, few-less, few-swapped}
use Rattle.dpl_base.specs.Spans.{IsSpanGap}
use Rattle.dpl_shade.specs.Rows.{IsShaded, IsShadow}

pub square_up : (m n : ℕ) → m ≤ n → m * m ≤ n * n
square_up m n a = grind arith

-- the nearest row of a span
record IsNearest (c d y : ℤ) (r : ℕ) : Type 0 where
  j : ℤ
  from : c ≤ℤ j
  below : j <ℤ d
  near : gap y j ≤ r

nearest : (c d y : ℤ) (r : ℕ) → c <ℤ d → ((c -ℤ pos 1) -ℤ pos r) ≤ℤ y → y <ℤ ((d +ℤ pos 1) +ℤ pos r) → IsNearest c d y r
nearest c d y r some low high =
    by_lt_z y c
    (λ l. record { j = c; from = omega (arith, ints); below = some; near = omega (arith, ints, l, low) })
    (λ l. by_lt_z y d
    (λ m. record { j = y; from = l; below = m; near = omega (arith, ints) })
    (λ m. record { j = d -ℤ pos 1; from = omega (arith, ints, some); below = omega (arith, ints); near = omega (arith, ints, m, high) }))

far_rows : (c d y j : ℤ) (r : ℕ) → c ≤ℤ j → j <ℤ d → gap y j ≤ r → (((c -ℤ pos 1) -ℤ pos r) ≤ℤ y) × (y <ℤ ((d +ℤ pos 1) +ℤ pos r))
far_rows c d y j r a b near = (omega (arith, ints, a, near), omega (arith, ints, b, near))

reach_rows : (spacing : Spacing) (n r g k : ℕ) → spacing.corner ≤ spacing.rule → n ≤ k → ¬ TooFew spacing (r + 1) n → TooFew spacing k g → g ≤ r
reach_rows spacing n r g k less l far near = elim (cases_lt r g) [
  | inl m ↦ absurd (far (few-less spacing (r + 1) n g k less (omega (arith, m)) l (few-swapped spacing k g near)))
  | inr m ↦ m
]

pub reach-small : (spacing : Spacing) (n r : ℕ) → spacing.corner ≤ spacing.rule → IsReach spacing n r → r < spacing.rule
reach-small spacing n r less reach = elim (cases_lt r spacing.rule) [
  | inl l ↦ l
  | inr l ↦ absurd (let a = square_up spacing.rule r l in let near = few-within spacing r n less reach.near in omega (arith, a, near))
]

module _ (spacing : Spacing) (less : spacing.corner ≤ spacing.rule) (n : ℕ) (slab other : Rect) (across : IsSpanGap slab.x0 slab.x1 other.x0 other.x1 n) where
  pub no-shade : spacing.rule ≤ n → (y : ℤ) → IsShaded spacing slab other y → ⊥
  no-shade l y s =
      let q : Pt = s.q in
      let least = across.least s.x q.x (record { from = s.left; below = s.right }) (record { from = s.has.left; below = s.has.right }) in
      let a = square_up spacing.rule (gap s.x q.x) (omega (arith, l, least)) in
      let near = few-within spacing (gap s.x q.x) (gap y q.y) less s.near in
      omega (arith, a, near)

  pub shadow-from_reach : (r : ℕ) (f t : ℤ) → other.y0 <ℤ other.y1 → IsReach spacing n r → f ≡ (other.y0 -ℤ pos 1) -ℤ pos r
      → t ≡ (other.y1 +ℤ pos 1) +ℤ pos r → IsShadow spacing slab other (record { from = f; to = t })
  shadow-from_reach r f t tall reach f_is t_is =
      record {
        some = omega (arith, ints, f_is, t_is, tall);
        rows = λ y. (
          λ h. (let a = h.from in
              let b = h.below in
              let j = nearest other.y0 other.y1 y r tall (omega (arith, ints, a, f_is)) (omega (arith, ints, b, t_is)) in
              let (i, k, i_in, k_in, ik) = across.reached in
              record {
                x = i;
                q = at k j.j;
                left = i_in.from;
                right = i_in.below;
                has = record { left = k_in.from; right = k_in.below; low = j.from; high = j.below };
                near = rw ik (few-less spacing n (gap y j.j) n r less (omega arith) j.near (few-swapped spacing r n reach.near));
              }),
          λ s. (let q : Pt = s.q in
              let least = across.least s.x q.x (record { from = s.left; below = s.right }) (record { from = s.has.left; below = s.has.right }) in
              let rows = reach_rows spacing n r (gap y q.y) (gap s.x q.x) less least reach.far s.near in
              let (a, b) = far_rows other.y0 other.y1 y q.y r s.has.low s.has.high rows in
              record { from = omega (arith, ints, a, f_is); below = omega (arith, ints, b, t_is) }),
        );
      }
