-- Rectangles by their corners.
use Rattle.std.proofs.Common.{◌≡◌, ℕ, ◌⊎◌, inl, inr, cond, sym, ap, ◌∙◌, arith}
use Rattle.std.specs.Prelude.{ℤ, pos, ◌+ℤ◌, ◌-ℤ◌, ◌≤ℤ◌, ◌<ℤ◌}
use Rattle.std.proofs.lemmas.Int.{ints, by_lt_z}
use lib.Signed.{lt_z}
use Rattle.dpl_spec_split.specs.declared.Pt.{Pt}
use Rattle.dpl_spec_split.specs.declared.Rect.{Rect}
use Rattle.dpl_spec_split.specs.Squares.{Has}
use Rattle.dpl_spec_split.specs.Loops.{step, IsPointWithin, IsRectWithin}
use Rattle.dpl_corners.specs.Corners.{AreOrdered, IsSpanned, IsUpright}

-- 1 below row y
abbrev pub above : Pt → ℤ → ℤ
above s y = cond (lt_z s.y y) (pos 1) (pos 0)

-- the sum over the four edges of the loop through the points
abbrev pub four_steps : Pt → Pt → Pt → Pt → Pt → ℤ
four_steps p q r t s = (((pos 0 +ℤ step p q s) +ℤ step q r s) +ℤ step r t s) +ℤ step t p s

pub step-left : (p q s : Pt) → p.x ≤ℤ s.x → step p q s ≡ above s q.y -ℤ above s p.y
step-left p q s left =
    by_lt_z s.y p.y
    (λ a. by_lt_z s.y q.y (λ b. grind (arith, ints, left, a, b)) (λ b. grind (arith, ints, left, a, b)))
    (λ a. by_lt_z s.y q.y (λ b. grind (arith, ints, left, a, b)) (λ b. grind (arith, ints, left, a, b)))

pub step-level : (p q s : Pt) → p.y ≡ q.y → step p q s ≡ pos 0
step-level p q s e = by_lt_z s.y p.y (λ a. grind (arith, ints, a, e)) (λ a. grind (arith, ints, a, e))

step-right : (p q s : Pt) → s.x <ℤ p.x → step p q s ≡ pos 0
step-right p q s right = grind (arith, ints, right)

above-yes : (s : Pt) (y : ℤ) → s.y <ℤ y → above s y ≡ pos 1
above-yes s y l = grind (arith, ints, l)

above-no : (s : Pt) (y : ℤ) → y ≤ℤ s.y → above s y ≡ pos 0
above-no s y l = grind (arith, ints, l)

-- the row is between the two, or beside both or neither
rows-cases : (s : Pt) (a b u v : ℤ) → AreOrdered a b u v → ((u ≤ℤ s.y) × (s.y <ℤ v)) ⊎ (above s a ≡ above s b)
rows-cases s a b u v o =
    by_lt_z s.y a
    (λ k. by_lt_z s.y b
    (λ l. inr (above-yes s a k ∙ sym (above-yes s b l)))
    (λ l. inl (elim o [
      | inl (e, f, g) ↦ (omega (arith, ints, k, l, e, f, g), omega (arith, ints, k, l, e, f, g))
      | inr (e, f, g) ↦ (omega (arith, ints, k, l, e, f, g), omega (arith, ints, k, l, e, f, g))
    ])))
    (λ k. by_lt_z s.y b
    (λ l. inl (elim o [
      | inl (e, f, g) ↦ (omega (arith, ints, k, l, e, f, g), omega (arith, ints, k, l, e, f, g))
      | inr (e, f, g) ↦ (omega (arith, ints, k, l, e, f, g), omega (arith, ints, k, l, e, f, g))
    ]))
    (λ l. inr (above-no s a k ∙ sym (above-no s b l))))

rows-differ : (s : Pt) (a b u v : ℤ) → AreOrdered a b u v → u ≤ℤ s.y → s.y <ℤ v → above s a ≡ above s b → ⊥
rows-differ s a b u v (inl (e, f, g)) low high same =
    let x = above-no s a (omega (arith, ints, e, low)) in
    let y = above-yes s b (omega (arith, ints, f, high)) in
    omega (arith, ints, x, y, same)
rows-differ s a b u v (inr (e, f, g)) low high same =
    let x = above-yes s a (omega (arith, ints, f, high)) in
    let y = above-no s b (omega (arith, ints, e, low)) in
    omega (arith, ints, x, y, same)

-- the sum over the edges, by the columns of the upright ones
module _ (p q r t : Pt) (h : IsUpright p q r t) (s : Pt) where
  sum_is : four_steps p q r t s ≡ step p q s +ℤ step r t s
  sum_is =
      let a = step-level q r s h.along in
      let b = step-level t p s h.back in
      omega (arith, ints, a, b)

  q_row : above s q.y ≡ above s r.y
  q_row = ap (above s) h.along

  t_row : above s t.y ≡ above s p.y
  t_row = ap (above s) h.back

  left_of_both : s.x <ℤ p.x → s.x <ℤ r.x → four_steps p q r t s ≡ pos 0
  left_of_both k l =
      let a = step-right p q s k in
      let b = step-right r t s l in
      let c = sum_is in
      omega (arith, ints, a, b, c)

  right_of_both : p.x ≤ℤ s.x → r.x ≤ℤ s.x → four_steps p q r t s ≡ pos 0
  right_of_both k l =
      let a = step-left p q s k in
      let b = step-left r t s l in
      let c = sum_is in
      let d = q_row in
      let e = t_row in
      omega (arith, ints, a, b, c, d, e)

  right_of_first : p.x ≤ℤ s.x → s.x <ℤ r.x → four_steps p q r t s ≡ above s r.y -ℤ above s p.y
  right_of_first k l =
      let a = step-left p q s k in
      let b = step-right r t s l in
      let c = sum_is in
      let d = q_row in
      omega (arith, ints, a, b, c, d)

  right_of_second : s.x <ℤ p.x → r.x ≤ℤ s.x → four_steps p q r t s ≡ above s p.y -ℤ above s r.y
  right_of_second k l =
      let a = step-right p q s k in
      let b = step-left r t s l in
      let c = sum_is in
      let d = t_row in
      omega (arith, ints, a, b, c, d)

  pub has-sum : (b : Rect) → IsSpanned p r b → Has b s → four_steps p q r t s ≡ pos 0 → ⊥
  has-sum b o has none =
      let left = has.left in
      let right = has.right in
      elim o.columns [
        | inl (e, f, g) ↦ (let w = right_of_first (omega (arith, ints, e, left)) (omega (arith, ints, f, right)) in
            rows-differ s p.y r.y b.y0 b.y1 o.rows has.low has.high (omega (arith, ints, w, none)))
        | inr (e, f, g) ↦ (let w = right_of_second (omega (arith, ints, f, right)) (omega (arith, ints, e, left)) in
            rows-differ s p.y r.y b.y0 b.y1 o.rows has.low has.high (omega (arith, ints, w, none)))
      ]

  pub sum-has : (b : Rect) → IsSpanned p r b → (four_steps p q r t s ≡ pos 0 → ⊥) → Has b s
  sum-has b o some =
      by_lt_z s.x p.x
      (λ k. by_lt_z s.x r.x
      (λ l. absurd (some (left_of_both k l)))
      (λ l. elim (rows-cases s p.y r.y b.y0 b.y1 o.rows) [
        | inl (low, high) ↦ elim o.columns [
          | inl (e, f, g) ↦ absurd (omega (arith, ints, k, l, g))
          | inr (e, f, g) ↦ record { left = omega (arith, ints, e, l); right = omega (arith, ints, f, k); low = low; high = high }
        ]
        | inr same ↦ absurd (some (let w = right_of_second k l in omega (arith, ints, w, same)))
      ]))
      (λ k. by_lt_z s.x r.x
      (λ l. elim (rows-cases s p.y r.y b.y0 b.y1 o.rows) [
        | inl (low, high) ↦ elim o.columns [
          | inl (e, f, g) ↦ record { left = omega (arith, ints, e, k); right = omega (arith, ints, f, l); low = low; high = high }
          | inr (e, f, g) ↦ absurd (omega (arith, ints, k, l, g))
        ]
        | inr same ↦ absurd (some (let w = right_of_first k l in omega (arith, ints, w, same)))
      ])
      (λ l. absurd (some (right_of_both k l))))

pub spanned-within : (bound : ℕ) (p q : Pt) (b : Rect) → IsSpanned p q b → IsPointWithin bound p → IsPointWithin bound q → IsRectWithin bound b
spanned-within bound p q b o v w =
    let px = v.column in let py = v.row in let qx = w.column in let qy = w.row in
    elim o.columns [
      | inl (e, f, g) ↦ elim o.rows [
        | inl (h, i, j) ↦ record { left = omega (arith, ints, e, px); low = omega (arith, ints, h, py); right = omega (arith, ints, f, qx); high = omega (arith, ints, i, qy) }
        | inr (h, i, j) ↦ record { left = omega (arith, ints, e, px); low = omega (arith, ints, h, qy); right = omega (arith, ints, f, qx); high = omega (arith, ints, i, py) }
      ]
      | inr (e, f, g) ↦ elim o.rows [
        | inl (h, i, j) ↦ record { left = omega (arith, ints, e, qx); low = omega (arith, ints, h, py); right = omega (arith, ints, f, px); high = omega (arith, ints, i, qy) }
        | inr (h, i, j) ↦ record { left = omega (arith, ints, e, qx); low = omega (arith, ints, h, qy); right = omega (arith, ints, f, px); high = omega (arith, ints, i, py) }
      ]
    ]
