-- Each zone of a layer has one first and one second side.
use Rattle.std.proofs.Common.{◌≡◌, ℕ, zero, suc, ◌<◌, ◌⊎◌, inl, inr, List, [], length, get_or, sym, refl, ap, ◌∙◌, subst, arith}
use Rattle.std.specs.Prelude.{ℤ, pos, ◌+ℤ◌, ◌-ℤ◌, ◌≤ℤ◌, ◌<ℤ◌, unsigned_abs}
use Rattle.std.specs.Prelude.{Option}
use Rattle.std.specs.List.{Contains}
use Rattle.std.proofs.lemmas.Int.{ints, by_lt_z}
use Rattle.std.proofs.lemmas.List.{get_or_default}
use Rattle.dpl_spec_split.specs.declared.Spacing.{Spacing}
use Rattle.dpl_spec_split.specs.declared.Pt.{Pt}
use Rattle.dpl_spec_split.specs.declared.Rect.{Rect}
use Rattle.dpl_spec_split.specs.declared.Zone.{Zone}
use Rattle.dpl_spec_split.specs.Squares.{Region, Has, Touch, AreTouching}
use Rattle.dpl_spec_split.specs.Components.{Linked, here, on, AreComponents}
use Rattle.dpl_spec_split.specs.Zones.{at, IsHorizontalZone, IsVerticalZone, IsKeptZone, transposed, transposed_rect, AreZones, AreSomeZones, part_at}
use Rattle.dpl_spec_split.specs.Pieces.{without}
use Rattle.dpl_spec_split.specs.Marks.{Marks, marked_by}
use Rattle.dpl_spec_split.proofs.SquareLaws.{Touch-from_close, Touch-sym}
use Rattle.dpl_spec_split.proofs.ComponentLaws.{Linked-trans, Linked-sym}
use Rattle.dpl_spec_split.proofs.ZoneLaws.{close-from_touch, zone-in-feature, beside-in-feature, beside-same, touching-beside}
use Rattle.dpl_spec_split.proofs.WholeLaws.{part-unique, SidesAreUnique, cut-unique, answer-unique}
use Rattle.dpl_spec_split.specs.Decomposition.{Cut, Answer, IsAnswer, IsDecomposition}

-- squares in a row, or in a column, are linked
module _ (rest : Region) (place : ℤ → Pt) (next : (i : ℤ) → Touch (place i) (place (i +ℤ pos 1))) (low high : ℤ) (all : (i : ℤ) → low ≤ℤ i → i <ℤ high → rest (place i)) where
  link-up : (n : ℕ) (i j : ℤ) → i +ℤ pos n ≡ j → low ≤ℤ i → j <ℤ high → Linked rest (place i) (place j)
  link-up zero i j e a b = subst (λ k. Linked rest (place i) (place k)) (let same : i ≡ j = omega (arith, ints, e) in same) (here (all i a (omega (arith, ints, e, b))))
  link-up (suc n) i j e a b =
      on (all i a (omega (arith, ints, e, b))) (next i) (link-up n (i +ℤ pos 1) j (omega (arith, ints, e)) (omega (arith, ints, a)) b)

  pub linked-along : (i j : ℤ) → low ≤ℤ i → i <ℤ high → low ≤ℤ j → j <ℤ high → Linked rest (place i) (place j)
  linked-along i j a b c d = by_lt_z i j
      (λ l. link-up (unsigned_abs (j -ℤ i)) i j (omega (arith, ints, l)) a d)
      (λ l. Linked-sym rest (link-up (unsigned_abs (i -ℤ j)) j i (omega (arith, ints, l)) c b))

-- what touches a component is in it
closed : (a : Region) (parts : List (List Rect)) (k : ℕ) (p q : Pt) → AreComponents a parts → k < length parts → a p → part_at parts k q → Touch p q → part_at parts k p
closed a parts k p q c k_in in_a has touch =
    let whole = c.whole k [] k_in in
    let linked : Linked a whole.0 q = (whole.2 q).0 has in
    let q_in : a q = (c.together q).0 (k, get_or parts k [], k_in, get_or_default parts k (get_or parts k []) [] k_in, has) in
    (whole.2 p).1 (Linked-trans a linked (on q_in (Touch-sym p q touch) (here in_a)))

module _ (spacing : Spacing) (overlap : ℕ) (layer : Region) (features pieces : List (List Rect)) (zones : List Zone) (c : AreComponents layer features)
    (zs : AreSomeZones spacing overlap layer features zones) (ps : AreComponents (without layer zones) pieces) where
  -- linked squares lie in one piece
  piece-same : (i j : ℕ) (p q : Pt) → i < length pieces → j < length pieces → part_at pieces i p → part_at pieces j q → Linked (without layer zones) p q → i ≡ j
  piece-same i j p q i_in j_in in_i in_j linked =
      let whole = ps.whole j [] j_in in
      part-unique (without layer zones) pieces i j p ps i_in j_in in_i ((whole.2 p).1 (Linked-trans _ ((whole.2 q).0 in_j) (Linked-sym _ linked)))

  kept : (z : Zone) → Contains zones z → (z.feature < length features) × IsKeptZone spacing overlap layer (part_at features z.feature) z.rect
  kept z z_in = zs.kept z z_in

  kept-inside : (f : Region) (r : Rect) (p : Pt) → IsKeptZone spacing overlap layer f r → Has r p → f p
  kept-inside f r p (inl h) has = zone-in-feature spacing layer f overlap r p h has
  kept-inside f r p (inr (v, apart)) has =
      zone-in-feature spacing (transposed layer) (transposed f) overlap (transposed_rect r) (at p.y p.x) v (record { left = has.low; right = has.high; low = has.left; high = has.right })

  -- a zone with a square of a feature is a zone of that feature
  zone-of : (w : Zone) (k : ℕ) (p : Pt) → Contains zones w → k < length features → part_at features k p → Has w.rect p → IsKeptZone spacing overlap layer (part_at features k) w.rect
  zone-of w k p w_in k_in in_k has =
      let (m_in, kept_m) = kept w w_in in
      let same : w.feature ≡ k = part-unique layer features w.feature k p c m_in k_in (kept-inside (part_at features w.feature) w.rect p kept_m has) in_k in
      subst (λ n. IsKeptZone spacing overlap layer (part_at features n) w.rect) same kept_m

  in-layer : (k : ℕ) (p : Pt) → k < length features → part_at features k p → layer p
  in-layer k p k_in has = (c.together p).0 (k, get_or features k [], k_in, get_or_default features k (get_or features k []) [] k_in, has)

  module _ (z : Zone) (z_in : Contains zones z) where
    abbrev F : Region
    F = part_at features z.feature

    feature_in : z.feature < length features
    feature_in = (kept z z_in).0

    -- a square in a zone isn't in the rest
    not-in-zone : (p : Pt) → without layer zones p → Has z.rect p → ⊥
    not-in-zone p rest has = let (n, n_in, n_is) = z_in in rest.1 (n, z, n_in, n_is, has)

    -- beside a horizontal zone, in its rows, the rest goes on
    rest-across : (h : IsHorizontalZone spacing overlap layer (part_at features z.feature) z.rect) (x y : ℤ)
        → ((x +ℤ pos 1 ≡ z.rect.x0) ⊎ (x ≡ z.rect.x1)) → z.rect.x0 <ℤ z.rect.x1 → z.rect.y0 ≤ℤ y → y <ℤ z.rect.y1
        → without layer zones (at x y)
    rest-across h x y side wide from below =
        let left : z.rect.x0 ≤ℤ (x +ℤ pos 1) = elim side [ inl e ↦ omega (arith, ints, e) | inr e ↦ omega (arith, ints, e, wide) ] in
        let right : x ≤ℤ z.rect.x1 = elim side [ inl e ↦ omega (arith, ints, e, wide) | inr e ↦ omega (arith, ints, e) ] in
        let in_f = beside-in-feature spacing layer (part_at features z.feature) overlap z.rect h x y left right from below in (
          in-layer z.feature (at x y) feature_in in_f,
          λ (n, w, n_in, n_is, has). elim (zone-of w z.feature (at x y) (n, n_in, n_is) feature_in in_f has) [
            | inl k ↦ (let same : z.rect ≡ w.rect = beside-same spacing layer (part_at features z.feature) overlap z.rect w.rect h k x y left right from below has in
                let mine : Has z.rect (at x y) = subst (λ r. Has r (at x y)) (sym same) has in
                elim side [ inl e ↦ omega (arith, ints, e, mine.left) | inr e ↦ omega (arith, ints, e, mine.right) ])
            | inr (v, apart) ↦ apart z.rect h
                (elim side [
                  | inl e ↦ (
                    at z.rect.x0 y,
                    at x y,
                    record { left = omega (arith, ints); right = wide; low = from; high = below },
                    has,
                    Touch-from_close (at z.rect.x0 y) (at x y) (omega (arith, ints, e)) (omega (arith, ints, e)) (omega (arith, ints))
                        (omega (arith, ints)),
                  )
                  | inr e ↦ (
                    at (z.rect.x1 -ℤ pos 1) y,
                    at x y,
                    record { left = omega (arith, ints, wide); right = omega (arith, ints); low = from; high = below },
                    has,
                    Touch-from_close (at (z.rect.x1 -ℤ pos 1) y) (at x y) (omega (arith, ints, e)) (omega (arith, ints, e))
                        (omega (arith, ints)) (omega (arith, ints)),
                  )
                ])
          ],
        )

    -- beside a vertical zone, in its columns, the rest goes on
    rest-up : (h : IsVerticalZone spacing overlap layer (part_at features z.feature) z.rect) (none : (r : Rect)
        → IsHorizontalZone spacing overlap layer (part_at features z.feature) r → ¬ AreTouching (Has r) (Has z.rect)) (x y : ℤ)
        → ((y +ℤ pos 1 ≡ z.rect.y0) ⊎ (y ≡ z.rect.y1)) → z.rect.y0 <ℤ z.rect.y1 → z.rect.x0 ≤ℤ x → x <ℤ z.rect.x1
        → without layer zones (at x y)
    rest-up h none x y side tall from below =
        let low : z.rect.y0 ≤ℤ (y +ℤ pos 1) = elim side [ inl e ↦ omega (arith, ints, e) | inr e ↦ omega (arith, ints, e, tall) ] in
        let high : y ≤ℤ z.rect.y1 = elim side [ inl e ↦ omega (arith, ints, e, tall) | inr e ↦ omega (arith, ints, e) ] in
        let in_f = beside-in-feature spacing (transposed layer) (transposed (part_at features z.feature)) overlap (transposed_rect z.rect) h y x low high from below in (
          in-layer z.feature (at x y) feature_in in_f,
          λ (n, w, n_in, n_is, has). elim (zone-of w z.feature (at x y) (n, n_in, n_is) feature_in in_f has) [
            | inl k ↦ none w.rect k
                (elim side [
                  | inl e ↦ (
                    at x y,
                    at x z.rect.y0,
                    has,
                    record { left = from; right = below; low = omega (arith, ints); high = tall },
                    Touch-from_close (at x y) (at x z.rect.y0) (omega (arith, ints)) (omega (arith, ints)) (omega (arith, ints, e))
                        (omega (arith, ints, e)),
                  )
                  | inr e ↦ (
                    at x y,
                    at x (z.rect.y1 -ℤ pos 1),
                    has,
                    record { left = from; right = below; low = omega (arith, ints, tall); high = omega (arith, ints) },
                    Touch-from_close (at x y) (at x (z.rect.y1 -ℤ pos 1)) (omega (arith, ints)) (omega (arith, ints))
                        (omega (arith, ints, e)) (omega (arith, ints, e)),
                  )
                ])
            | inr (v, apart) ↦ (let same : transposed_rect z.rect ≡ transposed_rect w.rect = beside-same spacing (transposed layer)
                (transposed (part_at features z.feature)) overlap (transposed_rect z.rect) (transposed_rect w.rect) h v y x low high from below
                (record { left = has.low; right = has.high; low = has.left; high = has.right }) in
                let mine : Has (transposed_rect z.rect) (at y x) = subst (λ r. Has r (at y x)) (sym same)
                (record { left = has.low; right = has.high; low = has.left; high = has.right }) in
                elim side [ inl e ↦ omega (arith, ints, e, mine.left) | inr e ↦ omega (arith, ints, e, mine.right) ])
          ],
        )

    -- where a square of the rest that touches the zone lies
    touches-at : (p q : Pt) → without layer zones p → Has z.rect q → Touch p q → part_at features z.feature p
    touches-at p q rest has touch = closed layer features z.feature p q c feature_in rest.0 (kept-inside (part_at features z.feature) z.rect q (kept z z_in).1 has) touch

    across-place : (h : IsHorizontalZone spacing overlap layer (part_at features z.feature) z.rect) (p q : Pt) → without layer zones p
        → Has z.rect q → Touch p q → (z.rect.y0 ≤ℤ p.y) × (p.y <ℤ z.rect.y1) × ((p.x +ℤ pos 1 ≡ z.rect.x0) ⊎ (p.x ≡ z.rect.x1))
    across-place h p q rest has touch =
        let (left, right, from, below) = touching-beside spacing layer (part_at features z.feature) overlap z.rect h p q (touches-at p q rest has touch) has touch in (
          from,
          below,
          by_lt_z p.x z.rect.x0 (λ l. inl (omega (arith, ints, l, left)))
              (λ l. by_lt_z p.x z.rect.x1 (λ m. absurd (not-in-zone p rest (record { left = l; right = m; low = from; high = below }))) (λ m. inr (omega (arith, ints, m, right)))),
        )

    up-place : (h : IsVerticalZone spacing overlap layer (part_at features z.feature) z.rect) (p q : Pt) → without layer zones p
        → Has z.rect q → Touch p q → (z.rect.x0 ≤ℤ p.x) × (p.x <ℤ z.rect.x1) × ((p.y +ℤ pos 1 ≡ z.rect.y0) ⊎ (p.y ≡ z.rect.y1))
    up-place h p q rest has touch =
        let close = close-from_touch p q touch in
        let (low, high, from, below) = touching-beside spacing (transposed layer) (transposed (part_at features z.feature)) overlap
        (transposed_rect z.rect) h (at p.y p.x) (at q.y q.x) (touches-at p q rest has touch)
        (record { left = has.low; right = has.high; low = has.left; high = has.right })
        (Touch-from_close (at p.y p.x) (at q.y q.x) close.low close.high close.left close.right) in (
          from,
          below,
          by_lt_z p.y z.rect.y0 (λ l. inl (omega (arith, ints, l, low)))
              (λ l. by_lt_z p.y z.rect.y1 (λ m. absurd (not-in-zone p rest (record { left = from; right = below; low = l; high = m }))) (λ m. inr (omega (arith, ints, m, high)))),
        )

    wide : (q : Pt) → Has z.rect q → z.rect.x0 <ℤ z.rect.x1
    wide q has = omega (arith, ints, has.left, has.right)

    tall : (q : Pt) → Has z.rect q → z.rect.y0 <ℤ z.rect.y1
    tall q has = omega (arith, ints, has.low, has.high)

    -- two squares beside the zone in one column, or in one row, are linked in the rest
    column-linked : (h : IsHorizontalZone spacing overlap layer (part_at features z.feature) z.rect) (x : ℤ) (p q : Pt)
        → ((x +ℤ pos 1 ≡ z.rect.x0) ⊎ (x ≡ z.rect.x1)) → z.rect.x0 <ℤ z.rect.x1 → p.x ≡ x → q.x ≡ x → z.rect.y0 ≤ℤ p.y → p.y <ℤ z.rect.y1
        → z.rect.y0 ≤ℤ q.y → q.y <ℤ z.rect.y1 → Linked (without layer zones) p q
    column-linked h x p q side w e g a b c' d =
        let line = linked-along (without layer zones) (λ i. at x i) (λ i. Touch-from_close (at x i) (at x (i +ℤ pos 1))
        (omega (arith, ints)) (omega (arith, ints)) (omega (arith, ints)) (omega (arith, ints)))
        z.rect.y0 z.rect.y1 (λ i l m. rest-across h x i side w l m) p.y q.y a b c' d in
        subst (λ t. Linked (without layer zones) t q) (ap (λ k. at k p.y) (sym e)) (subst (λ t. Linked (without layer zones) (at x p.y) t) (ap (λ k. at k q.y) (sym g)) line)

    row-linked : (h : IsVerticalZone spacing overlap layer (part_at features z.feature) z.rect) (none : (r : Rect)
        → IsHorizontalZone spacing overlap layer (part_at features z.feature) r → ¬ AreTouching (Has r) (Has z.rect)) (y : ℤ) (p q : Pt)
        → ((y +ℤ pos 1 ≡ z.rect.y0) ⊎ (y ≡ z.rect.y1)) → z.rect.y0 <ℤ z.rect.y1 → p.y ≡ y → q.y ≡ y → z.rect.x0 ≤ℤ p.x → p.x <ℤ z.rect.x1
        → z.rect.x0 ≤ℤ q.x → q.x <ℤ z.rect.x1 → Linked (without layer zones) p q
    row-linked h none y p q side t e g a b c' d =
        let line = linked-along (without layer zones) (λ i. at i y) (λ i. Touch-from_close (at i y) (at (i +ℤ pos 1) y)
        (omega (arith, ints)) (omega (arith, ints)) (omega (arith, ints)) (omega (arith, ints)))
        z.rect.x0 z.rect.x1 (λ i l m. rest-up h none i y side t l m) p.x q.x a b c' d in
        subst (λ s. Linked (without layer zones) s q) (ap (λ k. at p.x k) (sym e)) (subst (λ s. Linked (without layer zones) (at p.x y) s) (ap (λ k. at q.x k) (sym g)) line)

    -- squares of the rest that touch the zone from the left or from below are linked
    first-linked : IsKeptZone spacing overlap layer (part_at features z.feature) z.rect → (p q r s : Pt) → without layer zones p
        → Has z.rect q → Touch p q → (p.x <ℤ z.rect.x0) ⊎ (p.y <ℤ z.rect.y0) → without layer zones r → Has z.rect s → Touch r s
        → (r.x <ℤ z.rect.x0) ⊎ (r.y <ℤ z.rect.y0) → Linked (without layer zones) p r
    first-linked (inl h) p q r s a b t u d e v w =
        let (pa, pb, pc) = across-place h p q a b t in
        let (ra, rb, rc) = across-place h r s d e v in
        let wz = wide q b in
        let px : p.x +ℤ pos 1 ≡ z.rect.x0 = elim pc [ inl k ↦ k | inr k ↦ absurd (elim u [ inl l ↦ omega (arith, ints, k, l, wz) | inr l ↦ omega (arith, ints, l, pa) ]) ] in
        let rx : r.x +ℤ pos 1 ≡ z.rect.x0 = elim rc [ inl k ↦ k | inr k ↦ absurd (elim w [ inl l ↦ omega (arith, ints, k, l, wz) | inr l ↦ omega (arith, ints, l, ra) ]) ] in
        column-linked h p.x p r (inl px) wz refl (omega (arith, ints, px, rx)) pa pb ra rb
    first-linked (inr (h, none)) p q r s a b t u d e v w =
        let (pa, pb, pc) = up-place h p q a b t in
        let (ra, rb, rc) = up-place h r s d e v in
        let tz = tall q b in
        let py : p.y +ℤ pos 1 ≡ z.rect.y0 = elim pc [ inl k ↦ k | inr k ↦ absurd (elim u [ inl l ↦ omega (arith, ints, l, pa) | inr l ↦ omega (arith, ints, k, l, tz) ]) ] in
        let ry : r.y +ℤ pos 1 ≡ z.rect.y0 = elim rc [ inl k ↦ k | inr k ↦ absurd (elim w [ inl l ↦ omega (arith, ints, l, ra) | inr l ↦ omega (arith, ints, k, l, tz) ]) ] in
        row-linked h none p.y p r (inl py) tz refl (omega (arith, ints, py, ry)) pa pb ra rb

    second-linked : IsKeptZone spacing overlap layer (part_at features z.feature) z.rect → (p q r s : Pt) → without layer zones p
        → Has z.rect q → Touch p q → (z.rect.x1 ≤ℤ p.x) ⊎ (z.rect.y1 ≤ℤ p.y) → without layer zones r → Has z.rect s → Touch r s
        → (z.rect.x1 ≤ℤ r.x) ⊎ (z.rect.y1 ≤ℤ r.y) → Linked (without layer zones) p r
    second-linked (inl h) p q r s a b t u d e v w =
        let (pa, pb, pc) = across-place h p q a b t in
        let (ra, rb, rc) = across-place h r s d e v in
        let wz = wide q b in
        let px : p.x ≡ z.rect.x1 = elim pc [ inr k ↦ k | inl k ↦ absurd (elim u [ inl l ↦ omega (arith, ints, k, l, wz) | inr l ↦ omega (arith, ints, l, pb) ]) ] in
        let rx : r.x ≡ z.rect.x1 = elim rc [ inr k ↦ k | inl k ↦ absurd (elim w [ inl l ↦ omega (arith, ints, k, l, wz) | inr l ↦ omega (arith, ints, l, rb) ]) ] in
        column-linked h p.x p r (inr px) wz refl (omega (arith, ints, px, rx)) pa pb ra rb
    second-linked (inr (h, none)) p q r s a b t u d e v w =
        let (pa, pb, pc) = up-place h p q a b t in
        let (ra, rb, rc) = up-place h r s d e v in
        let tz = tall q b in
        let py : p.y ≡ z.rect.y1 = elim pc [ inr k ↦ k | inl k ↦ absurd (elim u [ inl l ↦ omega (arith, ints, l, pb) | inr l ↦ omega (arith, ints, k, l, tz) ]) ] in
        let ry : r.y ≡ z.rect.y1 = elim rc [ inr k ↦ k | inl k ↦ absurd (elim w [ inl l ↦ omega (arith, ints, l, rb) | inr l ↦ omega (arith, ints, k, l, tz) ]) ] in
        row-linked h none p.y p r (inr py) tz refl (omega (arith, ints, py, ry)) pa pb ra rb

  in-rest : (i : ℕ) (p : Pt) → i < length pieces → part_at pieces i p → without layer zones p
  in-rest i p i_in has = (ps.together p).0 (i, get_or pieces i [], i_in, get_or_default pieces i (get_or pieces i []) [] i_in, has)

  pub sides-unique : SidesAreUnique features pieces zones
  sides-unique z s t z_in a b =
      let k = (kept z z_in).1 in
      let (p, q, p_in, q_in, pq, p_side) = a.first in
      let (r, u, r_in, u_in, ru, r_side) = b.first in
      let (l, m, l_in, m_in, lm, l_side) = a.second in
      let (n, o, n_in, o_in, n_touch, n_side) = b.second in
      let one : s.0 ≡ t.0 = piece-same s.0 t.0 p r a.known.0 b.known.0 p_in r_in
      (first-linked z z_in k p q r u (in-rest s.0 p a.known.0 p_in) q_in pq p_side (in-rest t.0 r b.known.0 r_in) u_in ru r_side) in
      let two : s.1 ≡ t.1 = piece-same s.1 t.1 l n a.known.1 b.known.1 l_in n_in
      (second-linked z z_in k l m n o (in-rest s.1 l a.known.1 l_in) m_in lm l_side (in-rest t.1 n b.known.1 n_in) o_in n_touch n_side) in
      ap (λ x. (x, s.1)) one ∙ ap (λ y. (t.0, y)) two

-- zones but the marked ones are some zones
pub some_zones : (spacing : Spacing) (overlap : ℕ) (layer : Region) (features : List (List Rect)) (marked : Region) (zones : List Zone)
    → AreZones spacing overlap layer features marked zones → AreSomeZones spacing overlap layer features zones
some_zones spacing overlap layer features marked zones zs = record { ordered = zs.ordered; kept = λ z z_in. ((zs.exactly z).0 z_in).0 }

-- a layer has one decomposition
pub decomposition-unique : (marks : Option Marks) (spacing : Spacing) (overlap : ℕ) (layer : Region) (c d : Cut) (x y : Answer) → IsDecomposition marks spacing overlap layer c x
    → IsDecomposition marks spacing overlap layer d y → (c ≡ d) × (x ≡ y)
decomposition-unique marks spacing overlap layer c d x y a b =
    let some = some_zones spacing overlap layer c.features (marked_by marks) c.zones a.0.zones in
    let cut : c ≡ d = cut-unique marks spacing overlap layer c d
    (sides-unique spacing overlap layer c.features c.pieces c.zones a.0.features some a.0.pieces.components) a.0 b.0 in
    (cut, answer-unique marks spacing c x y a.1 (subst (λ e. IsAnswer marks spacing e y) (sym cut) b.1))
