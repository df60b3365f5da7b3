-- Zones of one feature stand apart, and each has two sides.
use Rattle.std.proofs.Common.{◌≡◌, ℕ, ◌<◌, ◌≤◌, ◌⊎◌, inl, inr, List, [], length, get_or, sym, refl, ap, ◌∙◌, subst, arith}
use Rattle.std.specs.Prelude.{ℤ, pos, ◌+ℤ◌, ◌-ℤ◌, ◌≤ℤ◌, ◌<ℤ◌, ◌↔◌}
use Rattle.std.specs.List.{Contains}
use Rattle.std.proofs.lemmas.Int.{ints, by_lt_z}
use Rattle.std.proofs.lemmas.List.{get_or_default}
use Rattle.dpl_spec_split.specs.declared.Spacing.{Spacing}
use Rattle.dpl_spec_split.specs.declared.Pt.{Pt}
use Rattle.dpl_spec_split.specs.declared.Rect.{Rect}
use Rattle.dpl_spec_split.specs.declared.Zone.{Zone}
use Rattle.dpl_spec_split.proofs.SpacingLaws.{few-swapped}
use Rattle.dpl_spec_split.specs.Squares.{Region, SameSquares, AreNear, AreTouching, Covers, Has, Touch, d2}
use Rattle.dpl_spec_split.specs.Components.{Linked, here, on, AreComponents}
use Rattle.dpl_spec_split.specs.Zones.{at, IsHorizontalZone, IsVerticalZone, IsKeptZone, transposed, transposed_rect, AreZones, AreSomeZones, part_at}
use Rattle.dpl_spec_split.specs.Pieces.{without, AreSides}
use Rattle.dpl_spec_split.proofs.SquareLaws.{Touch-from_close, Touch-sym}
use Rattle.dpl_spec_split.proofs.ComponentLaws.{Linked-trans}
use Rattle.dpl_spec_split.proofs.ZoneLaws.{close-from_touch, zone-in-feature, beside-in-feature, beside-same, touching-beside}
use Rattle.dpl_spec_split.proofs.WholeLaws.{part-unique}
use Rattle.dpl_spec_split.proofs.SideLaws.{sides-unique}
use Rattle.dpl_slabs.specs.Parts.{union_of}
use Rattle.dpl_zone.specs.Laws.{IsLeftOrBelow, IsRightOrAbove, HasTwoSides}
use Rattle.dpl_zone.proofs.Features.{kept-as, same_zone}
use Rattle.dpl_zone.proofs.Keeping.{zone-inside, upright-inside}

touch-transposed : (p q : Pt) → Touch p q → Touch (at p.y p.x) (at q.y q.x)
touch-transposed p q t = let c = close-from_touch p q t in Touch-from_close (at p.y p.x) (at q.y q.x) c.low c.high c.left c.right

-- squares side by side
touch-across : (x i y : ℤ) → (x ≡ i -ℤ pos 1) ⊎ (x ≡ i +ℤ pos 1) → Touch (at i y) (at x y)
touch-across x i y (inl e) = Touch-from_close (at i y) (at x y) (omega (arith, ints, e)) (omega (arith, ints, e)) (omega (arith, ints)) (omega (arith, ints))
touch-across x i y (inr e) = Touch-from_close (at i y) (at x y) (omega (arith, ints, e)) (omega (arith, ints, e)) (omega (arith, ints)) (omega (arith, ints))

touch-up : (x y j : ℤ) → (y ≡ j -ℤ pos 1) ⊎ (y ≡ j +ℤ pos 1) → Touch (at x y) (at x j)
touch-up x y j (inl e) = Touch-from_close (at x y) (at x j) (omega (arith, ints)) (omega (arith, ints)) (omega (arith, ints, e)) (omega (arith, ints, e))
touch-up x y j (inr e) = Touch-from_close (at x y) (at x j) (omega (arith, ints)) (omega (arith, ints)) (omega (arith, ints, e)) (omega (arith, ints, e))

one-back : (a : ℤ) → a ≡ (a -ℤ pos 1) +ℤ pos 1
one-back a = omega (arith, ints)

one-less : (a : ℤ) → (a -ℤ pos 1) <ℤ a
one-less a = omega (arith, ints)

no-less : (a : ℤ) → a ≤ℤ a
no-less a = omega (arith, ints)

has-transposed : (r : Rect) (p : Pt) → Has r p → Has (transposed_rect r) (at p.y p.x)
has-transposed r p h = record { left = h.low; right = h.high; low = h.left; high = h.right }

module _ (spacing : Spacing) (overlap : ℕ) (l f : Region) where
  pub kept-inside : (r : Rect) (p : Pt) → IsKeptZone spacing overlap l f r → Has r p → f p
  kept-inside r p (inl h) has = zone-in-feature spacing l f overlap r p h has
  kept-inside r p (inr (v, apart)) has = zone-in-feature spacing (transposed l) (transposed f) overlap (transposed_rect r) (at p.y p.x) v (has-transposed r p has)

flat-one : (spacing : Spacing) (overlap : ℕ) (l f : Region) (z w : Rect) → IsHorizontalZone spacing overlap l f z → IsHorizontalZone spacing overlap l f w → AreTouching (Has z) (Has w) → z ≡ w
flat-one spacing overlap l f z w h k (p, q, hp, hq, t) =
    let (a, b, c, d) = touching-beside spacing l f overlap z h q p (zone-in-feature spacing l f overlap w q k hq) hp (Touch-sym p q t) in
    beside-same spacing l f overlap z w h k q.x q.y a b c d hq

touching-transposed : (z w : Rect) → AreTouching (Has z) (Has w) → AreTouching (Has (transposed_rect z)) (Has (transposed_rect w))
touching-transposed z w (p, q, hp, hq, t) = (at p.y p.x, at q.y q.x, has-transposed z p hp, has-transposed w q hq, touch-transposed p q t)

touching-sym : (z w : Rect) → AreTouching (Has z) (Has w) → AreTouching (Has w) (Has z)
touching-sym z w (p, q, hp, hq, t) = (q, p, hq, hp, Touch-sym p q t)

kept-one : (spacing : Spacing) (overlap : ℕ) (l f : Region) (z w : Rect) → IsKeptZone spacing overlap l f z → IsKeptZone spacing overlap l f w → AreTouching (Has z) (Has w) → z ≡ w
kept-one spacing overlap l f z w (inl h) (inl k) t = flat-one spacing overlap l f z w h k t
kept-one spacing overlap l f z w (inl h) (inr (v, free)) t = absurd (free z h t)
kept-one spacing overlap l f z w (inr (v, free)) (inl k) t = absurd (free w k (touching-sym z w t))
kept-one spacing overlap l f z w (inr (v, free)) (inr (u, none)) t =
    ap transposed_rect (flat-one spacing overlap (transposed l) (transposed f) (transposed_rect z) (transposed_rect w) v u (touching-transposed z w t))

pub stand-apart : (spacing : Spacing) (overlap : ℕ) (layer : List Rect) (features : List (List Rect)) (zones : List Zone) → AreSomeZones spacing overlap (Covers layer) features zones
    → (z w : Zone) → Contains zones z → Contains zones w → z.feature ≡ w.feature → AreTouching (Has z.rect) (Has w.rect) → z ≡ w
stand-apart spacing overlap layer features zones zs z w z_in w_in same t =
    let (n, kz) = zs.kept z z_in in
    let (m, kw) = zs.kept w w_in in
    let kw' : IsKeptZone spacing overlap (Covers layer) (part_at features z.feature) w.rect = subst
    (λ k. IsKeptZone spacing overlap (Covers layer) (part_at features k) w.rect) (sym same) kw in
    same_zone z w (kept-one spacing overlap (Covers layer) (part_at features z.feature) z.rect w.rect kz kw' t) same

-- what touches a component is in it
closed : (a : Region) (parts : List (List Rect)) (k : ℕ) (p q : Pt) → AreComponents a parts → k < length parts → a p → part_at parts k q → Touch p q → part_at parts k p
closed a parts k p q c k_in in_a has touch =
    let whole = c.whole k [] k_in in
    let linked : Linked a whole.0 q = (whole.2 q).0 has in
    let q_in : a q = (c.together q).0 (k, get_or parts k [], k_in, get_or_default parts k (get_or parts k []) [] k_in, has) in
    (whole.2 p).1 (Linked-trans a linked (on q_in (Touch-sym p q touch) (here in_a)))

module _ (spacing : Spacing) (overlap : ℕ) (layer : List Rect) (features pieces : List (List Rect)) (zones : List Zone) (some : 1 ≤ overlap) (c : AreComponents (Covers layer) features)
    (zs : AreSomeZones spacing overlap (Covers layer) features zones) (ps : AreComponents (without (Covers layer) zones) pieces) where
  -- a zone with a square of a feature is a zone of that feature
  zone-of : (w : Zone) (k : ℕ) (p : Pt) → Contains zones w → k < length features → part_at features k p → Has w.rect p
      → IsKeptZone spacing overlap (Covers layer) (part_at features k) w.rect
  zone-of w k p w_in k_in in_k has =
      let (m_in, kept_m) = zs.kept w w_in in
      let same : w.feature ≡ k = part-unique (Covers layer) features w.feature k p c m_in k_in
      (kept-inside spacing overlap (Covers layer) (part_at features w.feature) w.rect p kept_m has) in_k in
      subst (λ n. IsKeptZone spacing overlap (Covers layer) (part_at features n) w.rect) same kept_m

  in-layer : (k : ℕ) (p : Pt) → k < length features → part_at features k p → Covers layer p
  in-layer k p k_in has = (c.together p).0 (k, get_or features k [], k_in, get_or_default features k (get_or features k []) [] k_in, has)

  module _ (z : Zone) (z_in : Contains zones z) where
    feature_in : z.feature < length features
    feature_in = (zs.kept z z_in).0

    own : (p q : Pt) → without (Covers layer) zones p → Has z.rect q → Touch p q → part_at features z.feature p
    own p q rest has touch =
        closed (Covers layer) features z.feature p q c feature_in rest.0
        (kept-inside spacing overlap (Covers layer) (part_at features z.feature) z.rect q (zs.kept z z_in).1 has) touch

    not-in-zone : (p : Pt) → without (Covers layer) zones p → Has z.rect p → ⊥
    not-in-zone p rest has = let (n, n_in, n_is) = z_in in rest.1 (n, z, n_in, n_is, has)

    -- in the rows of a horizontal zone the rest goes on beside it
    rest-across : IsHorizontalZone spacing overlap (Covers layer) (part_at features z.feature) z.rect → (x y i : ℤ) → Has z.rect (at i y)
        → ((x ≡ i -ℤ pos 1) × (i ≡ z.rect.x0)) ⊎ ((x ≡ i +ℤ pos 1) × (x ≡ z.rect.x1)) → without (Covers layer) zones (at x y)
    rest-across h x y i has side =
        let left : z.rect.x0 ≤ℤ (x +ℤ pos 1) = elim side [
          | inl e ↦ (let a = e.0 in let b = e.1 in omega (arith, ints, a, b))
          | inr e ↦ (let a = e.0 in let b = has.left in omega (arith, ints, a, b))
        ] in
        let right : x ≤ℤ z.rect.x1 = elim side [ inl e ↦ (let a = e.0 in let b = has.right in omega (arith, ints, a, b)) | inr e ↦ (let a = e.1 in omega (arith, ints, a)) ] in
        let close : Touch (at i y) (at x y) = elim side [ inl e ↦ touch-across x i y (inl e.0) | inr e ↦ touch-across x i y (inr e.0) ] in
        let in_f = beside-in-feature spacing (Covers layer) (part_at features z.feature) overlap z.rect h x y left right has.low has.high in (
          in-layer z.feature (at x y) feature_in in_f,
          λ (n, w, n_in, n_is, w_has). elim (zone-of w z.feature (at x y) (n, n_in, n_is) feature_in in_f w_has) [
            | inl k ↦ (let same : z.rect ≡ w.rect = beside-same spacing (Covers layer) (part_at features z.feature) overlap z.rect w.rect h k x y left right has.low has.high w_has in
                let mine : Has z.rect (at x y) = subst (λ r. Has r (at x y)) (sym same) w_has in
                elim side [
                  | inl e ↦ (let a = e.0 in let b = e.1 in let m = mine.left in omega (arith, ints, a, b, m))
                  | inr e ↦ (let a = e.1 in let m = mine.right in omega (arith, ints, a, m))
                ])
            | inr (v, apart) ↦ apart z.rect h (at i y, at x y, has, w_has, close)
          ],
        )

    -- in the columns of a vertical zone the rest goes on below and above it
    rest-up : IsVerticalZone spacing overlap (Covers layer) (part_at features z.feature) z.rect
        → ((r : Rect) → IsHorizontalZone spacing overlap (Covers layer) (part_at features z.feature) r → ¬ AreTouching (Has r) (Has z.rect))
        → (x y j : ℤ) → Has z.rect (at x j) → ((y ≡ j -ℤ pos 1) × (j ≡ z.rect.y0)) ⊎ ((y ≡ j +ℤ pos 1) × (y ≡ z.rect.y1)) → without (Covers layer) zones (at x y)
    rest-up h none x y j has side =
        let low : z.rect.y0 ≤ℤ (y +ℤ pos 1) = elim side [
          | inl e ↦ (let a = e.0 in let b = e.1 in omega (arith, ints, a, b))
          | inr e ↦ (let a = e.0 in let b = has.low in omega (arith, ints, a, b))
        ] in
        let high : y ≤ℤ z.rect.y1 = elim side [ inl e ↦ (let a = e.0 in let b = has.high in omega (arith, ints, a, b)) | inr e ↦ (let a = e.1 in omega (arith, ints, a)) ] in
        let close : Touch (at x y) (at x j) = elim side [ inl e ↦ touch-up x y j (inl e.0) | inr e ↦ touch-up x y j (inr e.0) ] in
        let in_f = beside-in-feature spacing (transposed (Covers layer)) (transposed (part_at features z.feature)) overlap
        (transposed_rect z.rect) h y x low high has.left has.right in (
          in-layer z.feature (at x y) feature_in in_f,
          λ (n, w, n_in, n_is, w_has). elim (zone-of w z.feature (at x y) (n, n_in, n_is) feature_in in_f w_has) [
            | inl k ↦ none w.rect k (at x y, at x j, w_has, has, close)
            | inr (v, apart) ↦ (let same : transposed_rect z.rect ≡ transposed_rect w.rect = beside-same spacing (transposed (Covers layer))
                (transposed (part_at features z.feature)) overlap (transposed_rect z.rect) (transposed_rect w.rect) h v y x low high has.left has.right
                (has-transposed w.rect (at x y) w_has) in
                let mine : Has (transposed_rect z.rect) (at y x) = subst (λ r. Has r (at y x)) (sym same) (has-transposed w.rect (at x y) w_has) in
                elim side [
                  | inl e ↦ (let a = e.0 in let b = e.1 in let m = mine.left in omega (arith, ints, a, b, m))
                  | inr e ↦ (let a = e.1 in let m = mine.right in omega (arith, ints, a, m))
                ])
          ],
        )

    abbrev OnOneSide : Pt → Type 0
    OnOneSide p = (IsLeftOrBelow z.rect p × (IsRightOrAbove z.rect p → ⊥)) ⊎ (IsRightOrAbove z.rect p × (IsLeftOrBelow z.rect p → ⊥))

    two-flat : IsHorizontalZone spacing overlap (Covers layer) (part_at features z.feature) z.rect → (p q : Pt)
        → without (Covers layer) zones p → Has z.rect q → Touch p q → OnOneSide p
    two-flat h p q rest has touch =
        let (left, right, from, below) = touching-beside spacing (Covers layer) (part_at features z.feature) overlap z.rect h p q (own p q rest has touch) has touch in
        let a = has.left in
        let b = has.right in
        by_lt_z p.x z.rect.x0
        (λ l. inl (inl l, λ r. elim r [ inl m ↦ omega (arith, ints, l, m, a, b) | inr m ↦ omega (arith, ints, m, below) ]))
        (λ l. by_lt_z p.x z.rect.x1
        (λ m. absurd (not-in-zone p rest (record { left = l; right = m; low = from; high = below })))
        (λ m. inr (inl m, λ r. elim r [ inl k ↦ omega (arith, ints, l, k) | inr k ↦ omega (arith, ints, k, from) ])))

    two-upright : IsVerticalZone spacing overlap (Covers layer) (part_at features z.feature) z.rect → (p q : Pt)
        → without (Covers layer) zones p → Has z.rect q → Touch p q → OnOneSide p
    two-upright h p q rest has touch =
        let (low, high, from, below) = touching-beside spacing (transposed (Covers layer)) (transposed (part_at features z.feature)) overlap
        (transposed_rect z.rect) h (at p.y p.x) (at q.y q.x)
        (own p q rest has touch) (has-transposed z.rect q has) (touch-transposed p q touch) in
        let a = has.low in
        let b = has.high in
        by_lt_z p.y z.rect.y0
        (λ l. inl (inr l, λ r. elim r [ inl m ↦ omega (arith, ints, m, below) | inr m ↦ omega (arith, ints, l, m, a, b) ]))
        (λ l. by_lt_z p.y z.rect.y1
        (λ m. absurd (not-in-zone p rest (record { left = from; right = below; low = l; high = m })))
        (λ m. inr (inr m, λ r. elim r [ inl k ↦ omega (arith, ints, k, from) | inr k ↦ omega (arith, ints, l, k) ])))

    two : IsKeptZone spacing overlap (Covers layer) (part_at features z.feature) z.rect → (p q : Pt) → without (Covers layer) zones p → Has z.rect q → Touch p q → OnOneSide p
    two (inl h) = two-flat h
    two (inr (v, none)) = two-upright v

    -- pieces on both sides
    sides-of : (p q r s : Pt) → without (Covers layer) zones p → Has z.rect q → Touch p q → IsLeftOrBelow z.rect p
        → without (Covers layer) zones r → Has z.rect s → Touch r s → IsRightOrAbove z.rect r
        → (side : ℕ × ℕ) × AreSides features pieces z side
    sides-of p q r s rest has touch left rest' has' touch' right =
        let (i, piece, i_in, i_is, in_i) = (ps.together p).1 rest in
        let (j, other, j_in, j_is, in_j) = (ps.together r).1 rest' in
        let at_i : part_at pieces i p = subst (λ t. Covers t p) (sym i_is ∙ get_or_default pieces i piece [] i_in) in_i in
        let at_j : part_at pieces j r = subst (λ t. Covers t r) (sym j_is ∙ get_or_default pieces j other [] j_in) in_j in
        ((i, j), record { known = (i_in, j_in); first = (p, q, at_i, has, touch, left); second = (r, s, at_j, has', touch', right) })

    sides-some : IsKeptZone spacing overlap (Covers layer) (part_at features z.feature) z.rect → (side : ℕ × ℕ) × AreSides features pieces z side
    sides-some (inl h) =
        let i = zone-inside spacing overlap (Covers layer) (part_at features z.feature) z.rect some h in
        let wide = i.wide in
        let tall = i.tall in
        let first : Has z.rect (at z.rect.x0 z.rect.y0) = record { left = no-less z.rect.x0; right = wide; low = no-less z.rect.y0; high = tall } in
        let last : Has z.rect (at (z.rect.x1 -ℤ pos 1) z.rect.y0) = record {
          left = omega (arith, ints, wide);
          right = one-less z.rect.x1;
          low = no-less z.rect.y0;
          high = tall;
        } in
        sides-of (at (z.rect.x0 -ℤ pos 1) z.rect.y0) (at z.rect.x0 z.rect.y0) (at z.rect.x1 z.rect.y0) (at (z.rect.x1 -ℤ pos 1) z.rect.y0)
        (rest-across h (z.rect.x0 -ℤ pos 1) z.rect.y0 z.rect.x0 first (inl (refl, refl))) first
        (touch-across z.rect.x0 (z.rect.x0 -ℤ pos 1) z.rect.y0 (inr (one-back z.rect.x0))) (inl (one-less z.rect.x0))
        (rest-across h z.rect.x1 z.rect.y0 (z.rect.x1 -ℤ pos 1) last (inr (one-back z.rect.x1, refl))) last
        (touch-across (z.rect.x1 -ℤ pos 1) z.rect.x1 z.rect.y0 (inl refl)) (inl (no-less z.rect.x1))
    sides-some (inr (v, none)) =
        let i = upright-inside spacing overlap (Covers layer) (part_at features z.feature) z.rect some v in
        let wide = i.wide in
        let tall = i.tall in
        let first : Has z.rect (at z.rect.x0 z.rect.y0) = record { left = no-less z.rect.x0; right = wide; low = no-less z.rect.y0; high = tall } in
        let last : Has z.rect (at z.rect.x0 (z.rect.y1 -ℤ pos 1)) = record {
          left = no-less z.rect.x0;
          right = wide;
          low = omega (arith, ints, tall);
          high = one-less z.rect.y1;
        } in
        sides-of (at z.rect.x0 (z.rect.y0 -ℤ pos 1)) (at z.rect.x0 z.rect.y0) (at z.rect.x0 z.rect.y1) (at z.rect.x0 (z.rect.y1 -ℤ pos 1))
        (rest-up v none z.rect.x0 (z.rect.y0 -ℤ pos 1) z.rect.y0 first (inl (refl, refl))) first
        (touch-up z.rect.x0 (z.rect.y0 -ℤ pos 1) z.rect.y0 (inl refl)) (inr (one-less z.rect.y0))
        (rest-up v none z.rect.x0 z.rect.y1 (z.rect.y1 -ℤ pos 1) last (inr (one-back z.rect.y1, refl))) last
        (touch-up z.rect.x0 z.rect.y1 (z.rect.y1 -ℤ pos 1) (inr (one-back z.rect.y1))) (inr (no-less z.rect.y1))

  pub two-sides : (z : Zone) → Contains zones z → HasTwoSides layer features pieces zones z
  two-sides z z_in =
      let kept = (zs.kept z z_in).1 in
      let (side, are) = sides-some z z_in kept in
      let one = sides-unique spacing overlap (Covers layer) features pieces zones c zs ps in
      record {
        side = side;
        are = are;
        first = λ i i_in first. ap (λ t. let s : ℕ × ℕ = t in s.0) (one z (i, side.1) side z_in (record { known = (i_in, are.known.1); first = first; second = are.second }) are);
        second = λ i i_in second. ap (λ t. let s : ℕ × ℕ = t in s.1) (one z (side.0, i) side z_in (record { known = (are.known.0, i_in); first = are.first; second = second }) are);
        own = own z z_in;
        two = two z z_in kept;
      }

d2-transposed : (p q : Pt) → d2 (at p.y p.x) (at q.y q.x) ≡ d2 p q
d2-transposed p q = omega arith

pub near-transposed : (spacing : Spacing) (a b : List Rect) → AreNear spacing (transposed (Covers a)) (transposed (Covers b)) ↔ AreNear spacing (Covers a) (Covers b)
near-transposed spacing a b = (
  λ (p, q, in_a, in_b, near). (at p.y p.x, at q.y q.x, in_a, in_b, few-swapped spacing _ _ near),
  λ (p, q, in_a, in_b, near). (at p.y p.x, at q.y q.x, in_a, in_b, few-swapped spacing _ _ near),
)

pub squares-transposed : (p q : Pt) → d2 (at p.y p.x) (at q.y q.x) ≡ d2 p q
squares-transposed = d2-transposed

pub of-squares : (spacing : Spacing) (overlap : ℕ) (layer : List Rect) (features : List (List Rect)) (marked : List Rect) (zones : List Zone) → SameSquares (union_of features) (Covers layer)
    → AreZones spacing overlap (union_of features) features (Covers marked) zones → AreZones spacing overlap (Covers layer) features (Covers marked) zones
of-squares spacing overlap layer features marked zones same zs =
    record {
      ordered = zs.ordered;
      exactly = λ z. (
        λ h. (let ((k_in, kept), free) = (zs.exactly z).0 h in ((k_in, kept-as spacing overlap (union_of features) (Covers layer) (part_at features z.feature) same z.rect kept), free)),
        λ ((k_in, kept), free). (zs.exactly z).1 ((k_in, kept-as spacing overlap (Covers layer) (union_of features) (part_at features z.feature) (λ p. ((same p).1, (same p).0)) z.rect kept), free),
      );
    }
