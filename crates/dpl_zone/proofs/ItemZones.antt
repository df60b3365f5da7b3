-- The zones of items, and of their owners.
use Rattle.std.proofs.Common.{◌≡◌, ◌≢◌, ℕ, ◌+◌, ◌<◌, ◌≤◌, ◌⊎◌, inl, inr, Bool, true, false, List, [], length, get_or, refl, sym, ap, ◌∙◌, subst, arith}
use Rattle.std.specs.Prelude.{ℤ, pos, ◌+ℤ◌, ◌≤ℤ◌, ◌<ℤ◌, ◌↔◌, IsTrue}
use Rattle.std.specs.List.{AllPairs, Contains}
use Rattle.std.proofs.lemmas.Bool.{cases_eq, cases_order, false≢true}
use Rattle.std.proofs.lemmas.Int.{ints}
use Rattle.std.proofs.lemmas.List.{get_or_default}
use Rattle.dpl_spec_split.specs.declared.Spacing.{Spacing}
use Rattle.dpl_spec_split.specs.declared.Pt.{Pt}
use Rattle.dpl_spec_split.specs.declared.Rect.{Rect}
use Rattle.dpl_spec_split.specs.declared.Zone.{Zone}
use Rattle.dpl_spec_split.specs.Slabs.{IsSolid}
use Rattle.dpl_spec_split.specs.Squares.{Covers, SameSquares}
use Rattle.dpl_spec_split.specs.Zones.{IsVerticalZone, at, part_at, transposed}
use Rattle.dpl_slabs.specs.Parts.{AreApart, union_of}
use Rattle.dpl_join.specs.declared.items.Item.{Item}
use Rattle.dpl_join.specs.Pairs.{item_at, no_item}
use Rattle.dpl_shade.specs.Ends.{AreEndsOf, IsLive}
use Rattle.dpl_shade.specs.Items.{others_in, own_in, AreOwnedWithin, IsOwned}
use Rattle.dpl_shade.specs.Rows.{GoesAbove, GoesBelow, IsShaded, SomeRow}
use Rattle.dpl_shade.specs.Shading.{AreShades, HasShade, IsBarren, IsDarkRow, IsDead, IsShort}
use Rattle.dpl_shade.specs.declared.ends.Ends.{Ends}
use Rattle.dpl_shade.specs.declared.rows.Span.{Span}
use Rattle.dpl_shade.specs.declared.shades.Shades.{Shades}
use Rattle.dpl_shade.proofs.ItemLaws.{in-others, in-own, others-in, others-within, own-in, owned-at}
use Rattle.dpl_shade.proofs.ShadingLaws.{barren-short}
use Rattle.dpl_zone.specs.Owned.{AreSets, IsSetOf}
use Rattle.dpl_zone.specs.SlabZones.{AddsZones, IsDark, IsLitZone, IsSlabZone, layer_of}
use Rattle.dpl_zone.specs.Ways.{AreUpright, IsItemZone}
use Rattle.dpl_zone.proofs.Features.{FirstOf}
use Rattle.dpl_zone.proofs.Runs.{slab-from_zone, zone-from_slab}
use Rattle.dpl_zone.proofs.TransposedLaws.{zone-as}
use Rattle.dpl_zone.proofs.Whole.{slab-zone-as}
use Rattle.dpl_zone.proofs.Zoning.{added-to_none, ended-zone_as, lit-zone_as}

-- items of too few rows, one after the other
pub all-short-more : (overlap : ℕ) (items : List Item) (n : ℕ) (d : Item) → n < length items → (get_or items n d).rect.y1 <ℤ ((get_or items n d).rect.y0 +ℤ pos (overlap + 2))
    → ((k : ℕ) → k < n → IsShort overlap items k) → (k : ℕ) → k < n + 1 → IsShort overlap items k
all-short-more overlap items n d n_in short before k l = elim (cases_eq k n) [
  | inl e ↦ subst (IsShort overlap items) (sym e) (subst (λ (i : Item). i.rect.y1 <ℤ (i.rect.y0 +ℤ pos (overlap + 2))) (get_or_default items n d no_item n_in) short)
  | inr ne ↦ before k (omega (arith, l, ne))
]

-- a barren item has no zone
pub dead-none : (spacing : Spacing) (overlap : ℕ) (items : List Item) (n : ℕ) (zones : List Rect) → zones ≡ [] → IsBarren spacing overlap items n
    → (z : Rect) → Contains zones z ↔ IsItemZone spacing overlap items n z
dead-none spacing overlap items n zones none barren z = (
  λ c. absurd (let (k, k_in, is) = subst (λ (zs : List Rect). Contains zs z) none c in omega (arith, k_in)),
  λ h. absurd (let short = barren h.g h.lit in let long = h.open_span.long in omega (arith, ints, short, long)),
)

-- the spans of an item's shades have just its dark rows
pub item-zones : (items : List Item) (t : Shades) (n : ℕ) (ends : Ends) (spans : List Span) (old new : List Rect) → AreShades items t → n < length items → (IsDead t n → ⊥)
    → AreEndsOf (own_in items (item_at items n).owner) (item_at items n).rect ends → ((y : ℤ) → SomeRow spans y ↔ HasShade t.found.items n y) → old ≡ []
    → AddsZones (IsLitZone t.overlap (IsTrue ends.below) (IsTrue ends.above) (SomeRow spans) (item_at items n).rect) old new
    → (z : Rect) → Contains new z ↔ IsItemZone t.spacing t.overlap items n z
item-zones items t n ends spans old new shades n_in alive told rows none adds z =
    let own = own_in items (item_at items n).owner in
    let slab = (item_at items n).rect in
    let low = IsTrue ends.below in
    let high = IsTrue ends.above in
    let members = added-to_none (IsLitZone t.overlap low high (SomeRow spans) slab) old new none adds z in
    let same : (y : ℤ) → slab.y0 ≤ℤ y → y <ℤ slab.y1 → SomeRow spans y ↔ IsDarkRow t.spacing items n y = λ y from below.
    (let dark = shades.rows n y n_in alive (from, below) in (λ r. dark.1 ((rows y).0 r), λ d. (rows y).1 (dark.0 d))) in (
      λ c. ended-zone_as t.overlap low high (GoesBelow own slab) (GoesAbove own slab) (IsDarkRow t.spacing items n) slab z told.below.0 told.above.0
          (lit-zone_as t.overlap low high (SomeRow spans) (IsDarkRow t.spacing items n) slab z same (members.0 c)),
      λ h. members.1 (lit-zone_as t.overlap low high (IsDarkRow t.spacing items n) (SomeRow spans) slab z (λ y from below. (let s = same y from below in (s.1, s.0)))
          (ended-zone_as t.overlap (GoesBelow own slab) (GoesAbove own slab) low high (IsDarkRow t.spacing items n) slab z told.below.1 told.above.1 h)),
    )

-- the zones of an item are added
pub item-added : (P : Rect → Type 0) (zs : List Rect) (n k : ℕ) (base new : List Zone) → length zs ≤ n → ((z : Rect) → Contains zs z ↔ P z)
    → ((z : Zone) → Contains new z ↔ (Contains base z ⊎ ((z.feature ≡ k) × FirstOf zs n z.rect)))
    → (z : Zone) → Contains new z ↔ (Contains base z ⊎ ((z.feature ≡ k) × P z.rect))
item-added P zs n k base new all are found z = (
  λ a. elim ((found z).0 a) [ inl b ↦ inl b | inr (e, (j, l, j_in, j_is)) ↦ inr (e, (are z.rect).0 (j, j_in, j_is)) ],
  λ a. elim a [ inl b ↦ (found z).1 (inl b) | inr (e, p) ↦ (let (j, j_in, j_is) = (are z.rect).1 p in (found z).1 (inr (e, (j, omega (arith, all, j_in), j_in, j_is)))) ],
)

-- a zone of one of the first n items
abbrev pub OfFirstItems : (ℕ → Rect → Type 0) → List Item → ℕ → Zone → Type 0
OfFirstItems P items n z = (m : ℕ) × (m < n) × (z.feature ≡ (item_at items m).owner) × P m z.rect

pub items-none : (P : ℕ → Rect → Type 0) (items : List Item) (zones : List Zone) → zones ≡ [] → (z : Zone) → Contains zones z ↔ OfFirstItems P items 0 z
items-none P items zones none z = (
  λ c. absurd (let (k, k_in, is) = subst (λ (zs : List Zone). Contains zs z) none c in omega (arith, k_in)),
  λ (m, l, e, p). absurd (omega (arith, l)),
)

pub items-more : (P : ℕ → Rect → Type 0) (items : List Item) (n : ℕ) (old new : List Zone) → ((z : Zone) → Contains old z ↔ OfFirstItems P items n z)
    → ((z : Zone) → Contains new z ↔ (Contains old z ⊎ ((z.feature ≡ (item_at items n).owner) × P n z.rect))) → (z : Zone) → Contains new z ↔ OfFirstItems P items (n + 1) z
items-more P items n old new before step z = (
  λ c. elim ((step z).0 c) [ inl a ↦ (let (m, l, e, p) = (before z).0 a in (m, omega (arith, l), e, p)) | inr (e, p) ↦ (n, omega arith, e, p) ],
  λ (m, l, e, p). elim (cases_eq m n) [
    | inl same ↦ (step z).1 (inr (e ∙ ap (λ (k : ℕ). (item_at items k).owner) same, subst (λ (k : ℕ). P k z.rect) same p))
    | inr ne ↦ (step z).1 (inl ((before z).1 (m, omega (arith, l, ne), e, p)))
  ],
)

-- ---- all items of an owner

module _ (spacing : Spacing) (less : spacing.corner ≤ spacing.rule) (overlap : ℕ) (parts : List (List Rect)) (items : List Item)
    (sets : AreSets parts items) (apart : AllPairs AreApart parts) (within : AreOwnedWithin items) where
  -- the other owners' rectangles have the squares of the other parts
  other-part : (k : ℕ) (p : Pt) → Covers (others_in items k) p → (j : ℕ) × (j < length parts) × (j ≢ k) × part_at parts j p
  other-part k p (i, r, i_in, is, has) =
      let (j, ne, owned) = others-in items k r (i, i_in, is) in
      let j_in = sets.known r j owned in
      let set = sets.each j j_in in
      let (m, m_in, m_is) = (set.has r).0 owned in
      (j, j_in, ne, (set.slabs.covers p).0 (m, r, m_in, m_is, has))

  part-other : (j k : ℕ) (p : Pt) → j < length parts → j ≢ k → part_at parts j p → Covers (others_in items k) p
  part-other j k p j_in ne at =
      let set = sets.each j j_in in
      let (m, r, m_in, m_is, has) = (set.slabs.covers p).1 at in
      let (i, i_in, is) = in-others items k r j ne ((set.has r).1 (m, m_in, m_is)) in
      (i, r, i_in, is, has)

  others-solid : (k : ℕ) (i : ℕ) (d : Rect) → i < length (others_in items k) → IsSolid (get_or (others_in items k) i d)
  others-solid k i d l = let w = others-within items k within i d l in record { wide = w.wide; tall = w.tall }

  module _ (k : ℕ) (k_in : k < length parts) where
    set : IsSetOf items k (part_at parts k)
    set = sets.each k k_in

    not-both : (p : Pt) → Covers set.rects p → Covers (others_in items k) p → ⊥
    not-both p own other =
        let here = (set.slabs.covers p).0 own in
        let (j, j_in, ne, there) = other-part k p other in
        elim (cases_order j k) [
          | inl e ↦ ne e
          | inr o ↦ elim o [ inl l ↦ apart j k [] l k_in p there here | inr l ↦ apart k j [] l j_in p here there ]
        ]

    layer-is : SameSquares (layer_of set.rects (others_in items k)) (union_of parts)
    layer-is p = (
      λ a. elim a [
        | inl own ↦ (k, get_or parts k [], k_in, get_or_default parts k (get_or parts k []) [] k_in, (set.slabs.covers p).0 own)
        | inr b ↦ (let (j, j_in, ne, at) = other-part k p b in (j, get_or parts j [], j_in, get_or_default parts j (get_or parts j []) [] j_in, at))
      ],
      λ (j, part, j_in, j_is, covers).
          (let at : part_at parts j p = subst (λ (s : List Rect). Covers s p) (sym j_is ∙ get_or_default parts j part [] j_in) covers in
          elim (cases_eq j k) [
            | inl e ↦ inl ((set.slabs.covers p).1 (subst (λ (i : ℕ). part_at parts i p) e at))
            | inr ne ↦ inr (part-other j k p j_in ne at)
          ]),
    )

    layer-back : SameSquares (union_of parts) (layer_of set.rects (others_in items k))
    layer-back p = ((layer-is p).1, (layer-is p).0)

    own-into : (p : Pt) → Covers (own_in items k) p → Covers set.rects p
    own-into p (i, r, i_in, is, has) = let (m, m_in, m_is) = (set.has r).0 (own-in items k r (i, i_in, is)) in (m, r, m_in, m_is, has)

    own-from : (p : Pt) → Covers set.rects p → Covers (own_in items k) p
    own-from p (m, r, m_in, m_is, has) = let (i, i_in, is) = in-own items k r ((set.has r).1 (m, m_in, m_is)) in (i, r, i_in, is, has)

    dark-same : (n : ℕ) (y : ℤ) → n < length items → (item_at items n).owner ≡ k → IsDarkRow spacing items n y ↔ IsDark spacing (others_in items k) (item_at items n).rect y
    dark-same n y n_in own = (
      λ (m, by).
          (let ne : (item_at items m).owner ≢ k = λ e. by.apart (e ∙ sym own) in
          let (i, i_in, is) = in-others items k (item_at items m).rect (item_at items m).owner ne (owned-at items m no_item by.known) in
          (i, (item_at items m).rect, i_in, is, by.shaded)),
      λ (i, r, i_in, is, shade).
          (let (j, ne, (t, (m, m_in, m_is), e, f)) = others-in items k r (i, i_in, is) in
          let here : item_at items m ≡ t = get_or_default items m no_item t m_in ∙ m_is in (
            m,
            record {
              known = m_in;
              apart = λ q. ne (sym f ∙ (sym (ap (λ (u : Item). u.owner) here) ∙ (q ∙ own)));
              shaded = subst (λ (s : Rect). IsShaded spacing (item_at items n).rect s y) (sym (ap (λ (u : Item). u.rect) here ∙ e)) shade;
            },
          )),
    )

    -- a zone of the slab, if it is the item's and the owner has number i
    abbrev OwnZone : ℕ → ℕ → Rect → Rect → Type 0
    OwnZone n i slab z = IsLitZone overlap (GoesBelow (own_in items i) slab) (GoesAbove (own_in items i) slab) (IsDarkRow spacing items n) slab z

    item-to : (n : ℕ) (z : Rect) → n < length items → (item_at items n).owner ≡ k → IsItemZone spacing overlap items n z → IsVerticalZone spacing overlap (union_of parts) (part_at parts k) z
    item-to n z n_in own h =
        let slab : Rect = (item_at items n).rect in
        let others = others_in items k in
        let owned : IsOwned items slab k = subst (IsOwned items slab) own (owned-at items n no_item n_in) in
        let a : OwnZone n k slab z = subst (λ (i : ℕ). OwnZone n i slab z) own h in
        let b : IsSlabZone spacing overlap (own_in items k) others slab z =
        lit-zone_as overlap (GoesBelow (own_in items k) slab) (GoesAbove (own_in items k) slab) (IsDarkRow spacing items n) (IsDark spacing others slab) slab z
        (λ y low high. dark-same n y n_in own) a in
        let c = slab-zone-as spacing overlap (own_in items k) set.rects others slab z own-into b in
        let d = zone-from_slab spacing less overlap set.rects others set.slabs.canonical (others-solid k) not-both slab z ((set.has slab).0 owned) c in
        zone-as spacing overlap (transposed (layer_of set.rects others)) (transposed (union_of parts)) (transposed (Covers set.rects)) (transposed (part_at parts k))
        (λ p. layer-is (at p.y p.x)) (λ p. set.slabs.covers (at p.y p.x)) _ d

    item-from : (z : Rect) → IsVerticalZone spacing overlap (union_of parts) (part_at parts k) z → (n : ℕ) × (n < length items) × (k ≡ (item_at items n).owner) × IsItemZone spacing overlap items n z
    item-from z zone =
        let others = others_in items k in
        let d : IsVerticalZone spacing overlap (layer_of set.rects others) (Covers set.rects) z =
        zone-as spacing overlap (transposed (union_of parts)) (transposed (layer_of set.rects others)) (transposed (part_at parts k)) (transposed (Covers set.rects))
        (λ p. layer-back (at p.y p.x)) (λ p. ((set.slabs.covers (at p.y p.x)).1, (set.slabs.covers (at p.y p.x)).0)) _ zone in
        let (s, s_in, c) = slab-from_zone spacing less overlap set.rects others set.slabs.canonical (others-solid k) not-both z d in
        let (t, (n, n_in, n_is), e, f) = (set.has s).1 s_in in
        let here : item_at items n ≡ t = get_or_default items n no_item t n_in ∙ n_is in
        let own : (item_at items n).owner ≡ k = ap (λ (u : Item). u.owner) here ∙ f in
        let slab_is : s ≡ (item_at items n).rect = sym e ∙ sym (ap (λ (u : Item). u.rect) here) in
        let b : IsSlabZone spacing overlap (own_in items k) others (item_at items n).rect z =
        subst (λ (r : Rect). IsSlabZone spacing overlap (own_in items k) others r z) slab_is (slab-zone-as spacing overlap set.rects (own_in items k) others s z own-from c) in
        let a : OwnZone n k (item_at items n).rect z =
        lit-zone_as overlap (GoesBelow (own_in items k) (item_at items n).rect) (GoesAbove (own_in items k) (item_at items n).rect) (IsDark spacing others (item_at items n).rect)
        (IsDarkRow spacing items n) (item_at items n).rect z
        (λ y low high. (let h = dark-same n y n_in own in (h.1, h.0))) b in
        (n, n_in, sym own, subst (λ (i : ℕ). OwnZone n i (item_at items n).rect z) (sym own) a)

  pub upright-all : (zones : List Zone) → ((z : Zone) → Contains zones z ↔ ((n : ℕ) × (n < length items) × (z.feature ≡ (item_at items n).owner) × IsItemZone spacing overlap items n z.rect))
      → AreUpright spacing overlap parts zones
  upright-all zones are z = (
    λ c.
        (let (n, n_in, e, h) = (are z).0 c in
        let k_in : z.feature < length parts = subst (λ (k : ℕ). k < length parts) (sym e) (sets.known (item_at items n).rect (item_at items n).owner (owned-at items n no_item n_in)) in
        (k_in, item-to z.feature k_in n z.rect n_in (sym e) h)),
    λ (k_in, zone). (are z).1 (item-from z.feature k_in z.rect zone),
  )

  -- there are none where each item is too short
  pub upright-none : (zones : List Zone) → zones ≡ [] → ((n : ℕ) → n < length items → IsShort overlap items n) → AreUpright spacing overlap parts zones
  upright-none zones none short = upright-all zones (λ z. (
    λ c. absurd (let (k, k_in, is) = subst (λ (zs : List Zone). Contains zs z) none c in omega (arith, k_in)),
    λ (n, n_in, own, zone). absurd (no-member ((dead-none spacing overlap items n [] refl (barren-short spacing overlap items n (short n n_in)) z.rect).1 zone)),
  ))
    where
      no-member : {x : Rect} → Contains [] x → ⊥
      no-member (k, k_in, is) = omega (arith, k_in)

-- a flag that is read as false isn't set
pub alive-from : (flags : List Bool) (n : ℕ) (b : Bool) → b ≡ get_or flags n b → b ≡ false → get_or flags n false ≡ true → ⊥
alive-from flags n false is e d = false≢true (is ∙ d)
alive-from flags n true is e d = false≢true (sym e)

pub live-from : (flags : List Bool) (n : ℕ) (b : Bool) → n < length flags → b ≡ get_or flags n b → b ≡ false → IsLive flags n
live-from flags n b n_in is e = get_or_default flags n false b n_in ∙ (sym is ∙ e)
