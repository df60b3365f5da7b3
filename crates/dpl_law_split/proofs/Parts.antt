-- Where the squares of a cut lie: each in one feature, and in one piece or one zone.
use Rattle.std.proofs.Common.{◌≡◌, ℕ, zero, suc, ◌<◌, ◌⊎◌, inl, inr, List, [], ◌∷◌, length, get_or, sym, refl, ap, ◌∙◌, subst, arith}
use Rattle.std.specs.Prelude.{Option}
use Rattle.std.specs.List.{Any, AllZip, Contains}
use Rattle.std.proofs.lemmas.Int.{ints, by_lt_z}
use Rattle.std.proofs.lemmas.Bool.{cases_lt, cases_order}
use Rattle.std.proofs.lemmas.List.{get_or_past, get_or_default}
use Rattle.dpl_spec_split.specs.declared.Spacing.{Spacing}
use Rattle.dpl_spec_split.specs.declared.Pt.{Pt}
use Rattle.dpl_spec_split.specs.declared.Rect.{Rect}
use Rattle.dpl_spec_split.specs.declared.Zone.{Zone}
use Rattle.dpl_spec_split.specs.Squares.{Region, Covers, Has, Touch}
use Rattle.dpl_spec_split.specs.Slabs.{Before}
use Rattle.dpl_spec_split.specs.Components.{AreComponents}
use Rattle.dpl_spec_split.specs.Zones.{at, IsHorizontalZone, IsVerticalZone, IsKeptZone, transposed, transposed_rect, part_at}
use Rattle.dpl_spec_split.specs.Pieces.{without, IsOwner}
use Rattle.dpl_spec_split.specs.Marks.{Marks}
use Rattle.dpl_spec_split.specs.Decomposition.{Cut, IsCut}
use Rattle.dpl_spec_split.proofs.SquareLaws.{Touch-from_close}
use Rattle.dpl_spec_split.proofs.SlabLaws.{Before-strict}
use Rattle.dpl_spec_split.proofs.ZoneLaws.{zone-in-feature, beside-same}
use Rattle.dpl_spec_split.proofs.WholeLaws.{part-unique}

nothing : (p : Pt) → Covers [] p → ⊥
nothing p (k, r, l, is, has) = omega (arith, l)

pub part-within : (parts : List (List Rect)) (k : ℕ) (p : Pt) → part_at parts k p → k < length parts
part-within parts k p has = elim (cases_lt k (length parts)) [
  | inl l ↦ l
  | inr past ↦ absurd (nothing p (subst (λ s. Covers s p) (get_or_past parts k [] past) has))
]

-- the squares of a component are in the set
pub part-inside : (a : Region) (parts : List (List Rect)) (k : ℕ) (p : Pt) → AreComponents a parts → part_at parts k p → a p
part-inside a parts k p c has =
    let l = part-within parts k p has in
    (c.together p).0 (k, get_or parts k [], l, get_or_default parts k (get_or parts k []) [] l, has)

-- each square of the set is in a component
pub part-of : (a : Region) (parts : List (List Rect)) (p : Pt) → AreComponents a parts → a p → (k : ℕ) × (k < length parts) × part_at parts k p
part-of a parts p c in_a =
    let (k, part, l, is, has) = (c.together p).1 in_a in
    (k, l, subst (λ s. Covers s p) (sym is ∙ get_or_default parts k part [] l) has)

-- two parts that share a square are one
pub part-same : (a : Region) (parts : List (List Rect)) (i j : ℕ) (p : Pt) → AreComponents a parts → part_at parts i p → part_at parts j p → i ≡ j
part-same a parts i j p c x y = part-unique a parts i j p c (part-within parts i p x) (part-within parts j p y) x y

pub zip-at : {A B : Type 0} (R : A → B → Type 0) (xs : List A) (ys : List B) (k : ℕ) (d : A) (e : B) → AllZip R xs ys → k < length xs → R (get_or xs k d) (get_or ys k e)
zip-at R [] ys k d e h l = absurd (omega (arith, l))
zip-at R (x ∷ xs) [] k d e h l = absurd h
zip-at R (x ∷ xs) (y ∷ ys) zero d e h l = h.0
zip-at R (x ∷ xs) (y ∷ ys) (suc k) d e h l = zip-at R xs ys k d e h.1 (omega (arith, l))

has_or_not : (r : Rect) (p : Pt) → Has r p ⊎ (Has r p → ⊥)
has_or_not r p =
    by_lt_z p.x r.x0 (λ l. inr (λ h. let k = h.left in omega (arith, ints, l, k)))
    (λ left. by_lt_z p.x r.x1
    (λ right. by_lt_z p.y r.y0 (λ l. inr (λ h. let k = h.low in omega (arith, ints, l, k)))
    (λ low. by_lt_z p.y r.y1
    (λ high. inl (record { left = left; right = right; low = low; high = high }))
    (λ l. inr (λ h. let k = h.high in omega (arith, ints, l, k)))))
    (λ l. inr (λ h. let k = h.right in omega (arith, ints, l, k))))

zoned-rest : (z : Zone) (zs : List Zone) (p : Pt) → (Has z.rect p → ⊥) → (Any (λ w. Has w.rect p) zs → ⊥) → (k : ℕ) (w : Zone)
    → k < length (z ∷ zs) → get_or (z ∷ zs) k w ≡ w → Has w.rect p → ⊥
zoned-rest z zs p here later zero w l is has = here (subst (λ v. Has v.rect p) (sym is) has)
zoned-rest z zs p here later (suc k) w l is has = later (k, w, omega (arith, l), is, has)

pub zoned_or_not : (zs : List Zone) (p : Pt) → Any (λ z. Has z.rect p) zs ⊎ (Any (λ z. Has z.rect p) zs → ⊥)
zoned_or_not [] p = inr (λ (k, w, l, is, has). omega (arith, l))
zoned_or_not (z ∷ zs) p = elim (has_or_not z.rect p) [
  | inl h ↦ inl (0, z, omega arith, refl, h)
  | inr here ↦ elim (zoned_or_not zs p) [
    | inl (k, w, l, is, has) ↦ inl (suc k, w, omega (arith, l), is, has)
    | inr later ↦ inr (λ (k, w, l, is, has). zoned-rest z zs p here later k w l is has)
  ]
]

module _ (spacing : Spacing) (overlap : ℕ) (layer : Region) where
  pub kept-inside : (f : Region) (r : Rect) (p : Pt) → IsKeptZone spacing overlap layer f r → Has r p → f p
  kept-inside f r p (inl h) has = zone-in-feature spacing layer f overlap r p h has
  kept-inside f r p (inr (v, apart)) has =
      zone-in-feature spacing (transposed layer) (transposed f) overlap (transposed_rect r) (at p.y p.x) v
      (record { left = has.low; right = has.high; low = has.left; high = has.right })

  touches-itself : (p : Pt) → Touch p p
  touches-itself p = Touch-from_close p p (omega (arith, ints)) (omega (arith, ints)) (omega (arith, ints)) (omega (arith, ints))

  level-same : (f : Region) (r s : Rect) (p : Pt) → IsHorizontalZone spacing overlap layer f r → IsHorizontalZone spacing overlap layer f s → Has r p → Has s p → r ≡ s
  level-same f r s p h k a b =
      let left = a.left in
      let right = a.right in
      beside-same spacing layer f overlap r s h k p.x p.y (omega (arith, ints, left)) (omega (arith, ints, right)) a.low a.high b

module _ (spacing : Spacing) (overlap : ℕ) (layer f : Region) where
  upright-same : (r s : Rect) (p : Pt) → IsVerticalZone spacing overlap layer f r → IsVerticalZone spacing overlap layer f s → Has r p → Has s p → r ≡ s
  upright-same r s p h k a b =
      let same : transposed_rect r ≡ transposed_rect s = level-same spacing overlap (transposed layer) (transposed f) (transposed_rect r) (transposed_rect s) (at p.y p.x) h k
      (record { left = a.low; right = a.high; low = a.left; high = a.right })
      (record { left = b.low; right = b.high; low = b.left; high = b.right }) in
      ap transposed_rect same

  -- two zones of a feature that share a square are one
  pub kept-same : (r s : Rect) (p : Pt) → IsKeptZone spacing overlap layer f r → IsKeptZone spacing overlap layer f s → Has r p → Has s p → r ≡ s
  kept-same r s p (inl h) (inl k) a b = level-same spacing overlap layer f r s p h k a b
  kept-same r s p (inl h) (inr (v, apart)) a b = absurd (apart r h (p, p, a, b, touches-itself spacing overlap layer p))
  kept-same r s p (inr (v, apart)) (inl k) a b = absurd (apart s k (p, p, b, a, touches-itself spacing overlap layer p))
  kept-same r s p (inr (v, apart)) (inr (w, far)) a b = upright-same r s p v w a b

module _ (marks : Option Marks) (spacing : Spacing) (overlap : ℕ) (layer : Region) (c : Cut) (cut : IsCut marks spacing overlap layer c) where
  pub kept : (z : Zone) → Contains c.zones z → (z.feature < length c.features) × IsKeptZone spacing overlap layer (part_at c.features z.feature) z.rect
  kept z z_in = ((cut.zones.exactly z).0 z_in).0

  -- a zone's squares are of its feature
  pub zone-own : (z : Zone) (p : Pt) → Contains c.zones z → Has z.rect p → part_at c.features z.feature p
  zone-own z p z_in has = kept-inside spacing overlap layer (part_at c.features z.feature) z.rect p (kept z z_in).1 has

  -- two zones that share a square are one
  pub zone-same : (k l : ℕ) (z w : Zone) (p : Pt) → k < length c.zones → l < length c.zones → get_or c.zones k z ≡ z → get_or c.zones l w ≡ w → Has z.rect p → Has w.rect p → k ≡ l
  zone-same k l z w p k_in l_in z_is w_is a b =
      let z_in : Contains c.zones z = (k, k_in, z_is) in
      let w_in : Contains c.zones w = (l, l_in, w_is) in
      let one : w.feature ≡ z.feature = part-same layer c.features w.feature z.feature p cut.features (zone-own w p w_in b) (zone-own z p z_in a) in
      let mine = (kept z z_in).1 in
      let theirs = subst (λ n. IsKeptZone spacing overlap layer (part_at c.features n) w.rect) one (kept w w_in).1 in
      let same : z.rect ≡ w.rect = kept-same spacing overlap layer (part_at c.features z.feature) z.rect w.rect p mine theirs a b in
      let w_at : get_or c.zones l z ≡ w = get_or_default c.zones l z w l_in ∙ w_is in
      let z_at : get_or c.zones k w ≡ z = get_or_default c.zones k w z k_in ∙ z_is in
      elim (cases_order k l) [
        | inl e ↦ e
        | inr other ↦ elim other [
          | inl less ↦ (let before : Before z.rect w.rect = subst (λ v. Before z.rect v.rect) w_at
              (subst (λ v. Before v.rect (get_or c.zones l z).rect) z_is (cut.zones.ordered k l z less l_in)) in
              let itself : Before w.rect w.rect = subst (λ r. Before r w.rect) same before in
              absurd (Before-strict w.rect w.rect itself itself))
          | inr less ↦ (let before : Before w.rect z.rect = subst (λ v. Before w.rect v.rect) z_at
              (subst (λ v. Before v.rect (get_or c.zones k w).rect) w_is (cut.zones.ordered l k w less k_in)) in
              let itself : Before w.rect w.rect = subst (λ r. Before w.rect r) same before in
              absurd (Before-strict w.rect w.rect itself itself))
        ]
      ]

  -- a piece lies in its owner
  pub owner-is : (k i : ℕ) (p : Pt) → part_at c.pieces k p → part_at c.features i p → get_or c.owners k 0 ≡ i
  owner-is k i p has in_i =
      let own : IsOwner c.features (get_or c.pieces k []) (get_or c.owners k 0) = zip-at
      (IsOwner c.features) c.pieces c.owners k [] 0 cut.pieces.owned (part-within c.pieces k p has) in
      part-same layer c.features (get_or c.owners k 0) i p cut.features (own.1 p has) in_i

  -- what a piece has is outside the zones
  pub piece-rest : (k : ℕ) (p : Pt) → part_at c.pieces k p → without layer c.zones p
  piece-rest k p has = part-inside (without layer c.zones) c.pieces k p cut.pieces.components has
