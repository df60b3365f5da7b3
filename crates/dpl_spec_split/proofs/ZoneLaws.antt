-- Zones of one feature stand apart, and what touches a zone lies in two sides.
use Rattle.std.proofs.Common.{◌≡◌, ℕ, zero, suc, ◌+◌, ◌*◌, ◌<◌, inl, inr, sym, refl, ◌∙◌, subst, arith}
use Rattle.std.specs.Prelude.{ℤ, pos, ◌+ℤ◌, ◌-ℤ◌, ◌≤ℤ◌, ◌<ℤ◌}
use Rattle.std.proofs.lemmas.Int.{ints, by_lt_z}
use Rattle.dpl_spec_split.specs.declared.Spacing.{Spacing}
use Rattle.dpl_spec_split.specs.declared.Pt.{Pt}
use Rattle.dpl_spec_split.specs.declared.Rect.{Rect}
use Rattle.dpl_spec_split.specs.Squares.{Region, Has, Touch, gap}
use Rattle.dpl_spec_split.specs.Zones.{at, IsClearRun, IsStretch, IsMiddle, IsHorizontalZone}
use Rattle.dpl_spec_split.proofs.SlabLaws.{same_rect}

square_zero : (a b : ℕ) → a * a + b * b ≡ 0 → (a ≡ 0) × (b ≡ 0)
square_zero zero zero e = (refl, refl)
square_zero zero (suc b) e = absurd (let p : 0 < suc b * suc b = grind arith in omega (arith, e, p))
square_zero (suc a) b e = absurd (let p : 0 < suc a * suc a = grind arith in omega (arith, e, p))

-- touching squares are at most one column and one row apart
pub record IsClose (p q : Pt) : Type 0 where
  pub left : q.x ≤ℤ (p.x +ℤ pos 1)
  pub right : p.x ≤ℤ (q.x +ℤ pos 1)
  pub low : q.y ≤ℤ (p.y +ℤ pos 1)
  pub high : p.y ≤ℤ (q.y +ℤ pos 1)

pub close-from_touch : (p q : Pt) → Touch p q → IsClose p q
close-from_touch p q t =
    let both = square_zero (gap p.x q.x) (gap p.y q.y) t in
    let across = both.0 in
    let up = both.1 in
    record { left = omega (arith, ints, across); right = omega (arith, ints, across); low = omega (arith, ints, up); high = omega (arith, ints, up) }

module _ (spacing : Spacing) (layer f : Region) where
  run-low : (y0 y1 z0 z1 x y : ℤ) → IsClearRun spacing layer f y0 y1 x → IsClearRun spacing layer f z0 z1 x → y0 ≤ℤ y → y <ℤ z1 → y0 ≤ℤ z0
  run-low y0 y1 z0 z1 x y a b from below = by_lt_z z0 y0
      (λ l. absurd (a.below (b.inside (y0 -ℤ pos 1) (omega (arith, ints, l)) (omega (arith, ints, from, below)))))
      (λ h. h)

  run-high : (y0 y1 z0 z1 x y : ℤ) → IsClearRun spacing layer f y0 y1 x → IsClearRun spacing layer f z0 z1 x → z0 ≤ℤ y → y <ℤ y1 → z1 ≤ℤ y1
  run-high y0 y1 z0 z1 x y a b from below = by_lt_z y1 z1
      (λ l. absurd (a.above (b.inside y1 (omega (arith, ints, from, below)) l)))
      (λ h. h)

  -- two clear runs of a column that share a row are one
  run-unique : (y0 y1 z0 z1 x y : ℤ) → IsClearRun spacing layer f y0 y1 x → IsClearRun spacing layer f z0 z1 x → y0 ≤ℤ y → y <ℤ y1 → z0 ≤ℤ y → y <ℤ z1 → (y0 ≡ z0) × (y1 ≡ z1)
  run-unique y0 y1 z0 z1 x y a b p q r s =
      let l = run-low y0 y1 z0 z1 x y a b p s in
      let m = run-low z0 z1 y0 y1 x y b a r q in
      let h = run-high y0 y1 z0 z1 x y a b r q in
      let k = run-high z0 z1 y0 y1 x y b a p s in
      (omega (arith, ints, l, m), omega (arith, ints, h, k))

  module _ (overlap : ℕ) where
    stretch-left : (r s : Rect) (x : ℤ) → IsStretch spacing overlap layer f r → IsStretch spacing overlap layer f s → r.y0 ≡ s.y0 → r.y1 ≡ s.y1 → r.x0 ≤ℤ x → x <ℤ s.x1 → r.x0 ≤ℤ s.x0
    stretch-left r s x a b e g from below = by_lt_z s.x0 r.x0
        (λ l. absurd (a.maximal_left (rw (e, g) (b.runs (r.x0 -ℤ pos 1) (omega (arith, ints, l)) (omega (arith, ints, from, below))))))
        (λ h. h)

    stretch-right : (r s : Rect) (x : ℤ) → IsStretch spacing overlap layer f r → IsStretch spacing overlap layer f s → r.y0 ≡ s.y0 → r.y1 ≡ s.y1 → s.x0 ≤ℤ x → x <ℤ r.x1 → s.x1 ≤ℤ r.x1
    stretch-right r s x a b e g from below = by_lt_z r.x1 s.x1
        (λ l. absurd (a.maximal_right (rw (e, g) (b.runs r.x1 (omega (arith, ints, from, below)) l))))
        (λ h. h)

    -- two stretches that share a square are one
    stretch-unique : (r s : Rect) (x y : ℤ) → IsStretch spacing overlap layer f r → IsStretch spacing overlap layer f s → Has r (at x y) → Has s (at x y) → r ≡ s
    stretch-unique r s x y a b h k =
        let rows = run-unique r.y0 r.y1 s.y0 s.y1 x y (a.runs x h.left h.right) (b.runs x k.left k.right) h.low h.high k.low k.high in
        let l = stretch-left r s x a b rows.0 rows.1 h.left k.right in
        let m = stretch-left s r x b a (sym rows.0) (sym rows.1) k.left h.right in
        let p = stretch-right r s x a b rows.0 rows.1 k.left h.right in
        let q = stretch-right s r x b a (sym rows.0) (sym rows.1) h.left k.right in
        same_rect r s (omega (arith, ints, l, m)) rows.0 (omega (arith, ints, p, q)) rows.1

    middle-unique : (r z w : Rect) → IsMiddle overlap r z → IsMiddle overlap r w → z ≡ w
    middle-unique r z w a b =
        let x0 : z.x0 ≡ w.x0 = elim a.middle [
          | inl e ↦ elim b.middle [ inl g ↦ omega (arith, ints, e, g, a.width, b.width) | inr g ↦ omega (arith, ints, e, g, a.width, b.width) ]
          | inr e ↦ elim b.middle [ inl g ↦ omega (arith, ints, e, g, a.width, b.width) | inr g ↦ omega (arith, ints, e, g, a.width, b.width) ]
        ] in
        same_rect z w x0 (a.rows.0 ∙ sym b.rows.0) (omega (arith, ints, x0, a.width, b.width)) (a.rows.1 ∙ sym b.rows.1)

    -- a stretch goes on beyond its zone by a column on each side
    margins : (r z : Rect) → IsStretch spacing overlap layer f r → IsMiddle overlap r z → (r.x0 <ℤ z.x0) × (z.x1 <ℤ r.x1)
    margins r z a m = elim m.middle [
      | inl e ↦ (omega (arith, ints, e, a.long, m.width), omega (arith, ints, e, a.long, m.width))
      | inr e ↦ (omega (arith, ints, e, a.long, m.width), omega (arith, ints, e, a.long, m.width))
    ]

    -- the squares of a stretch are in the feature
    in-stretch : (r : Rect) (x y : ℤ) → IsStretch spacing overlap layer f r → Has r (at x y) → f (at x y)
    in-stretch r x y a h = (a.runs x h.left h.right).inside y h.low h.high

    zone-in-stretch : (r z : Rect) (p : Pt) → IsStretch spacing overlap layer f r → IsMiddle overlap r z → Has z p → Has r p
    zone-in-stretch r z p a m h =
        let g = margins r z a m in
        record {
          left = omega (arith, ints, g.0, h.left);
          right = omega (arith, ints, g.1, h.right);
          low = omega
              (arith, ints, h.low, m.rows.0);
          high = omega (arith, ints, h.high, m.rows.1);
        }

    pub zone-in-feature : (z : Rect) (p : Pt) → IsHorizontalZone spacing overlap layer f z → Has z p → f p
    zone-in-feature z p h has = in-stretch h.stretch p.x p.y h.is (zone-in-stretch h.stretch z p h.is h.middle has)

    -- a column beside a zone, in its rows, is a column of its stretch
    beside : (z : Rect) (h : IsHorizontalZone spacing overlap layer f z) (x y : ℤ) → z.x0 ≤ℤ (x +ℤ pos 1) → x ≤ℤ z.x1 → z.y0 ≤ℤ y → y <ℤ z.y1 → Has h.stretch (at x y)
    beside z h x y a b c d =
        let g = margins h.stretch z h.is h.middle in
        let rows = h.middle.rows in
        record { left = omega (arith, ints, g.0, a); right = omega (arith, ints, g.1, b); low = omega (arith, ints, c, rows.0); high = omega (arith, ints, d, rows.1) }

    pub beside-in-feature : (z : Rect) (h : IsHorizontalZone spacing overlap layer f z) (x y : ℤ) → z.x0 ≤ℤ (x +ℤ pos 1) → x ≤ℤ z.x1 → z.y0 ≤ℤ y → y <ℤ z.y1 → f (at x y)
    beside-in-feature z h x y a b c d = in-stretch h.stretch x y h.is (beside z h x y a b c d)

    -- a horizontal zone with a square beside another, in its rows, is the other
    pub beside-same : (z w : Rect) (h : IsHorizontalZone spacing overlap layer f z) (k : IsHorizontalZone spacing overlap layer f w) (x y : ℤ)
        → z.x0 ≤ℤ (x +ℤ pos 1) → x ≤ℤ z.x1 → z.y0 ≤ℤ y → y <ℤ z.y1 → Has w (at x y) → z ≡ w
    beside-same z w h k x y a b c d has =
        let same : h.stretch ≡ k.stretch = stretch-unique h.stretch k.stretch x y h.is k.is (beside z h x y a b c d) (zone-in-stretch k.stretch w (at x y) k.is k.middle has) in
        middle-unique h.stretch z w h.middle (subst (λ r. IsMiddle overlap r w) (sym same) k.middle)

    -- a square of the feature that touches a zone and isn't in it lies beside it, in its rows
    pub touching-beside : (z : Rect) (h : IsHorizontalZone spacing overlap layer f z) (p q : Pt) → f p → Has z q → Touch p q
        → (z.x0 ≤ℤ (p.x +ℤ pos 1)) × (p.x ≤ℤ z.x1) × (z.y0 ≤ℤ p.y) × (p.y <ℤ z.y1)
    touching-beside z h p q in_f has touch =
        let c = close-from_touch p q touch in
        let g = margins h.stretch z h.is h.middle in
        let rows = h.middle.rows in
        let run = h.is.runs p.x (omega (arith, ints, g.0, has.left, c.left)) (omega (arith, ints, g.1, has.right, c.right)) in (
          omega (arith, ints, has.left, c.left),
          omega (arith, ints, has.right, c.right),
          by_lt_z p.y z.y0 (λ l. absurd (let e : p.y ≡ h.stretch.y0 -ℤ pos 1 = omega (arith, ints, l, has.low, c.low, rows.0) in
              run.below (subst (λ y. f (at p.x y)) e in_f))) (λ m. m),
          by_lt_z p.y z.y1 (λ m. m) (λ l. absurd (let e : p.y ≡ h.stretch.y1 = omega (arith, ints, l, has.high, c.high, rows.1) in run.above (subst (λ y. f (at p.x y)) e in_f))),
        )
