-- What the zones leave of a layer goes on beside each of them.
use Rattle.std.proofs.Common.{◌≡◌, ℕ, ◌<◌, ◌⊎◌, inl, inr, List, [], length, get_or, sym, ◌∙◌, subst, arith}
use Rattle.std.specs.Prelude.{ℤ, pos, ◌+ℤ◌, ◌≤ℤ◌, ◌<ℤ◌}
use Rattle.std.specs.List.{Contains}
use Rattle.std.proofs.lemmas.Bool.{cases_lt}
use Rattle.std.proofs.lemmas.List.{get_or_default, get_or_past}
use Rattle.dpl_spec_split.specs.declared.Spacing.{Spacing}
use Rattle.dpl_spec_split.specs.declared.Pt.{Pt}
use Rattle.dpl_spec_split.specs.declared.Rect.{Rect}
use Rattle.dpl_spec_split.specs.declared.Zone.{Zone}
use Rattle.dpl_spec_split.specs.Squares.{Region, Covers, Has, Touch, AreTouching}
use Rattle.dpl_spec_split.specs.Components.{Linked, here, on, AreComponents}
use Rattle.dpl_spec_split.specs.Zones.{at, IsHorizontalZone, IsVerticalZone, IsKeptZone, transposed, transposed_rect, AreSomeZones, part_at}
use Rattle.dpl_spec_split.specs.Pieces.{without}
use Rattle.dpl_spec_split.proofs.SquareLaws.{Touch-from_close, Touch-sym}
use Rattle.dpl_spec_split.proofs.ComponentLaws.{Linked-trans}
use Rattle.dpl_spec_split.proofs.ZoneLaws.{zone-in-feature, beside-in-feature, beside-same}
use Rattle.dpl_spec_split.proofs.WholeLaws.{part-unique}
use Rattle.dpl_piece.proofs.Steps.{beside-from, beside-to, next-one, next-to, not-beside}

covers-none : (p : Pt) → Covers [] p → ⊥
covers-none p (k, r, k_in, is, has) = omega (arith, k_in)

-- a part with a square is one of the parts
pub part-known : (parts : List (List Rect)) (k : ℕ) (p : Pt) → part_at parts k p → k < length parts
part-known parts k p has = elim (cases_lt k (length parts)) [
  | inl l ↦ l
  | inr past ↦ absurd (covers-none p (subst (λ s. Covers s p) (get_or_past parts k [] past) has))
]

-- a square of some part is one of the set
pub in-set : (a : Region) (parts : List (List Rect)) (k : ℕ) (p : Pt) → AreComponents a parts → k < length parts → part_at parts k p → a p
in-set a parts k p c k_in has = (c.together p).0 (k, get_or parts k [], k_in, get_or_default parts k (get_or parts k []) [] k_in, has)

-- each square of the set is one of some part
pub some-part : (a : Region) (parts : List (List Rect)) (p : Pt) → AreComponents a parts → a p → (k : ℕ) × (k < length parts) × part_at parts k p
some-part a parts p c in_a =
    let (k, part, k_in, is, has) = (c.together p).1 in_a in
    (k, k_in, subst (λ s. Covers s p) (sym is ∙ get_or_default parts k part [] k_in) has)

-- what touches a part is in it
pub closed : (a : Region) (parts : List (List Rect)) (k : ℕ) (p q : Pt) → AreComponents a parts → k < length parts → a p → part_at parts k q → Touch p q → part_at parts k p
closed a parts k p q c k_in in_a has touch =
    let whole = c.whole k [] k_in in
    let linked : Linked a whole.0 q = (whole.2 q).0 has in
    (whole.2 p).1 (Linked-trans a linked (on (in-set a parts k q c k_in has) (Touch-sym p q touch) (here in_a)))

module _ (spacing : Spacing) (overlap : ℕ) (layer : Region) (features : List (List Rect)) (zones : List Zone) (c : AreComponents layer features)
    (zs : AreSomeZones spacing overlap layer features zones) where
  pub kept : (z : Zone) → Contains zones z → (z.feature < length features) × IsKeptZone spacing overlap layer (part_at features z.feature) z.rect
  kept z z_in = zs.kept z z_in

  pub kept-inside : (f : Region) (r : Rect) (p : Pt) → IsKeptZone spacing overlap layer f r → Has r p → f p
  kept-inside f r p (inl h) has = zone-in-feature spacing layer f overlap r p h has
  kept-inside f r p (inr (v, apart)) has =
      zone-in-feature spacing (transposed layer) (transposed f) overlap (transposed_rect r) (at p.y p.x) v
      (record { left = has.low; right = has.high; low = has.left; high = has.right })

  -- a zone with a square of a feature is a zone of that feature
  zone-of : (w : Zone) (k : ℕ) (p : Pt) → Contains zones w → k < length features → part_at features k p → Has w.rect p → IsKeptZone spacing overlap layer (part_at features k) w.rect
  zone-of w k p w_in k_in in_k has =
      let (m_in, kept_m) = kept w w_in in
      let same : w.feature ≡ k = part-unique layer features w.feature k p c m_in k_in (kept-inside (part_at features w.feature) w.rect p kept_m has) in_k in
      subst (λ n. IsKeptZone spacing overlap layer (part_at features n) w.rect) same kept_m

  module _ (z : Zone) (z_in : Contains zones z) where
    pub feature_in : z.feature < length features
    feature_in = (kept z z_in).0

    -- beside a horizontal zone, in its rows, the rest goes on
    pub rest-across : (h : IsHorizontalZone spacing overlap layer (part_at features z.feature) z.rect) (x y : ℤ)
        → ((x +ℤ pos 1 ≡ z.rect.x0) ⊎ (x ≡ z.rect.x1)) → z.rect.x0 <ℤ z.rect.x1 → z.rect.y0 ≤ℤ y → y <ℤ z.rect.y1
        → without layer zones (at x y)
    rest-across h x y side wide from below =
        let left : z.rect.x0 ≤ℤ (x +ℤ pos 1) = beside-from x z.rect.x0 z.rect.x1 side wide in
        let right : x ≤ℤ z.rect.x1 = beside-to x z.rect.x0 z.rect.x1 side wide in
        let in_f = beside-in-feature spacing layer (part_at features z.feature) overlap z.rect h x y left right from below in (
          in-set layer features z.feature (at x y) c feature_in in_f,
          λ (n, w, n_in, n_is, has). elim (zone-of w z.feature (at x y) (n, n_in, n_is) feature_in in_f has) [
            | inl k ↦ (let same : z.rect ≡ w.rect = beside-same spacing layer (part_at features z.feature) overlap z.rect w.rect h k x y left right from below has in
                let mine : Has z.rect (at x y) = subst (λ r. Has r (at x y)) (sym same) has in
                not-beside x z.rect.x0 z.rect.x1 side mine.left mine.right)
            | inr (v, apart) ↦ (let (q, least, most, near, far) = next-to x z.rect.x0 z.rect.x1 side wide in
                apart z.rect h
                (at q y, at x y, record { left = least; right = most; low = from; high = below }, has, Touch-from_close (at q y) (at x y) far near (next-one y) (next-one y)))
          ],
        )

    -- beside a vertical zone, in its columns, the rest goes on
    pub rest-up : (h : IsVerticalZone spacing overlap layer (part_at features z.feature) z.rect) (none : (r : Rect)
        → IsHorizontalZone spacing overlap layer (part_at features z.feature) r → ¬ AreTouching (Has r) (Has z.rect)) (x y : ℤ)
        → ((y +ℤ pos 1 ≡ z.rect.y0) ⊎ (y ≡ z.rect.y1)) → z.rect.y0 <ℤ z.rect.y1 → z.rect.x0 ≤ℤ x → x <ℤ z.rect.x1
        → without layer zones (at x y)
    rest-up h none x y side tall from below =
        let low : z.rect.y0 ≤ℤ (y +ℤ pos 1) = beside-from y z.rect.y0 z.rect.y1 side tall in
        let high : y ≤ℤ z.rect.y1 = beside-to y z.rect.y0 z.rect.y1 side tall in
        let in_f = beside-in-feature spacing (transposed layer) (transposed (part_at features z.feature)) overlap (transposed_rect z.rect) h y x low high from below in (
          in-set layer features z.feature (at x y) c feature_in in_f,
          λ (n, w, n_in, n_is, has). elim (zone-of w z.feature (at x y) (n, n_in, n_is) feature_in in_f has) [
            | inl k ↦ (let (q, least, most, near, far) = next-to y z.rect.y0 z.rect.y1 side tall in
                none w.rect k
                (at x y, at x q, has, record { left = from; right = below; low = least; high = most }, Touch-from_close (at x y) (at x q) (next-one x) (next-one x) near far))
            | inr (v, apart) ↦ (let same : transposed_rect z.rect ≡ transposed_rect w.rect = beside-same spacing (transposed layer)
                (transposed (part_at features z.feature)) overlap (transposed_rect z.rect) (transposed_rect w.rect) h v y x low high from below
                (record { left = has.low; right = has.high; low = has.left; high = has.right }) in
                let mine : Has (transposed_rect z.rect) (at y x) = subst (λ r. Has r (at y x)) (sym same)
                (record { left = has.low; right = has.high; low = has.left; high = has.right }) in
                not-beside y z.rect.y0 z.rect.y1 side mine.left mine.right)
          ],
        )
