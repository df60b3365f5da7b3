-- Horizontal zones, and the vertical ones beside them.
use Rattle.std.proofs.Common.{◌≡◌, ℕ, zero, suc, ◌+◌, ◌<◌, ◌≤◌, ◌⊎◌, inl, inr, List, [], ◌∷◌, ◌++◌, length, get_or, sym, refl, ap, ◌∙◌, subst, arith}
use Rattle.std.specs.Prelude.{pos, ◌-ℤ◌, ◌≤ℤ◌, ◌<ℤ◌, ◌↔◌}
use Rattle.std.specs.List.{All, Contains}
use Rattle.std.proofs.lemmas.Int.{ints}
use Rattle.std.proofs.lemmas.Bool.{cases_eq}
use Rattle.std.proofs.lemmas.List.{get_or_default}
use Rattle.std.proofs.lemmas.List.Elements.{Contains-append_left, Contains-push, Contains-push_cases}
use Rattle.dpl_spec_split.specs.declared.Spacing.{Spacing}
use Rattle.dpl_spec_split.specs.declared.Rect.{Rect}
use Rattle.dpl_spec_split.specs.declared.Zone.{Zone}
use Rattle.dpl_spec_split.specs.Loops.{farthest}
use Rattle.dpl_spec_split.specs.Squares.{Region, AreTouching, Has, Covers, IsSolidWithin}
use Rattle.dpl_spec_split.specs.Zones.{at, IsHorizontalZone, IsVerticalZone, transposed, transposed_rect}
use Rattle.dpl_tree.specs.declared.items.Item.{Item}
use Rattle.dpl_tree.specs.Trees.{HasItem}
use Rattle.dpl_shade.specs.Rows.{AreWithin}
use Rattle.dpl_zone.specs.Layers.{AreItemsWithin, TouchesItem, TouchesOwn}

-- a zone of some rows has its squares in the feature
pub record IsInside (f : Region) (z : Rect) : Type 0 where
  pub wide : z.x0 <ℤ z.x1
  pub tall : z.y0 <ℤ z.y1
  pub first : f (at z.x0 z.y0)
  pub last : f (at (z.x1 -ℤ pos 1) (z.y1 -ℤ pos 1))

pub zone-inside : (spacing : Spacing) (overlap : ℕ) (l f : Region) (z : Rect) → 1 ≤ overlap → IsHorizontalZone spacing overlap l f z → IsInside f z
zone-inside spacing overlap l f z some h =
    let r : Rect = h.stretch in
    let st = h.is in
    let m = h.middle in
    let width = m.width in
    let rows = m.rows in
    let low = rows.0 in
    let high = rows.1 in
    let long = st.long in
    let from : r.x0 ≤ℤ z.x0 = elim m.middle [ inl e ↦ omega (arith, ints, e, width, long) | inr e ↦ omega (arith, ints, e, width, long) ] in
    let to : z.x1 ≤ℤ r.x1 = elim m.middle [ inl e ↦ omega (arith, ints, e, width, long) | inr e ↦ omega (arith, ints, e, width, long) ] in
    let wide : z.x0 <ℤ z.x1 = omega (arith, ints, width, some) in
    let first = st.runs z.x0 from (omega (arith, ints, wide, to)) in
    let last = st.runs (z.x1 -ℤ pos 1) (omega (arith, ints, wide, from)) (omega (arith, ints, to)) in
    let tall = first.some in
    record {
      wide = wide;
      tall = omega (arith, ints, tall, low, high);
      first = first.inside z.y0 (omega (arith, ints, low)) (omega (arith, ints, low, tall));
      last = last.inside (z.y1 -ℤ pos 1) (omega (arith, ints, tall, high)) (omega (arith, ints, high));
    }

pub inside-within : (rects : List Rect) (z : Rect) → AreWithin rects → IsInside (Covers rects) z → IsSolidWithin farthest z
inside-within rects z within h =
    let (i, r, i_in, r_is, low) = h.first in
    let (j, t, j_in, t_is, high) = h.last in
    let a : IsSolidWithin farthest r = subst (λ u. IsSolidWithin farthest u) r_is (within i r i_in) in
    let b : IsSolidWithin farthest t = subst (λ u. IsSolidWithin farthest u) t_is (within j t j_in) in
    let r0 = a.left in
    let r1 = a.right in
    let r2 = a.low in
    let r3 = a.high in
    let t0 = b.left in
    let t1 = b.right in
    let t2 = b.low in
    let t3 = b.high in
    let p0 = low.left in
    let p1 = low.right in
    let p2 = low.low in
    let p3 = low.high in
    let q0 = high.left in
    let q1 = high.right in
    let q2 = high.low in
    let q3 = high.high in
    record {
      wide = h.wide;
      tall = h.tall;
      left = omega (arith, ints, r0, r1, p0, p1);
      right = omega (arith, ints, t0, t1, q0, q1);
      low = omega (arith, ints, r2, r3, p2, p3);
      high = omega (arith, ints, t2, t3, q2, q3);
    }

pub upright-inside : (spacing : Spacing) (overlap : ℕ) (l f : Region) (z : Rect) → 1 ≤ overlap → IsVerticalZone spacing overlap l f z → IsInside f z
upright-inside spacing overlap l f z some h =
    let i = zone-inside spacing overlap (transposed l) (transposed f) (transposed_rect z) some h in
    record { wide = i.tall; tall = i.wide; first = i.first; last = i.last }

abbrev pub KeptOf : List Zone → List Zone → ℕ → Zone → Type 0
KeptOf flat zs n w = (k : ℕ) × (k < n) × (k < length zs) × (get_or zs k w ≡ w) × (TouchesOwn flat w → ⊥)

pub apart-added : (kept : List Zone) (P : Zone → Type 0) (z : Zone) → (P z → ⊥) → (w : Zone)
    → Contains (kept ++ z ∷ []) w ↔ (Contains kept w ⊎ ((z ≡ w) × (P w → ⊥)))
apart-added kept P z free w = (
  λ h. elim (Contains-push_cases kept z w h) [ inl a ↦ inl a | inr e ↦ inr (e, subst (λ (u : Zone). P u → ⊥) e free) ],
  λ h. elim h [ inl a ↦ Contains-append_left kept (z ∷ []) w a | inr (e, f) ↦ subst (λ (u : Zone). Contains (kept ++ z ∷ []) u) e (Contains-push kept z) ],
)

pub apart-none : (kept : List Zone) (P : Zone → Type 0) (z : Zone) → P z → (w : Zone) → Contains kept w ↔ (Contains kept w ⊎ ((z ≡ w) × (P w → ⊥)))
apart-none kept P z touch w = (
  λ a. inl a,
  λ a. elim a [ inl b ↦ b | inr (e, f) ↦ absurd (f (subst P e touch)) ],
)

-- the items are the zones of the list, by feature
abbrev pub AreZoneItems : List Zone → List Item → Type 0
AreZoneItems zones items = (r : Rect) (k : ℕ) → HasItem items r k ↔ ((z : Zone) × Contains zones z × (z.rect ≡ r) × (z.feature ≡ k))

touches-item : (flat : List Zone) (items : List Item) (w : Zone) → AreZoneItems flat items → TouchesOwn flat w → TouchesItem items w
touches-item flat items w are (h, c, e, touch) = (h.rect, (are h.rect w.feature).1 (h, c, refl, e), touch)

touches-own : (flat : List Zone) (items : List Item) (w : Zone) → AreZoneItems flat items → TouchesItem items w → TouchesOwn flat w
touches-own flat items w are (r, has, touch) = let (h, c, e, f) = (are r w.feature).0 has in (h, c, f, subst (λ (s : Rect). AreTouching (Has s) (Has w.rect)) (sym e) touch)

pub apart-of_list : (flat : List Zone) (items : List Item) (z : Zone) (old new : List Zone) → AreZoneItems flat items
    → ((w : Zone) → Contains new w ↔ (Contains old w ⊎ ((z ≡ w) × (TouchesItem items w → ⊥)))) → (w : Zone) → Contains new w ↔ (Contains old w ⊎ ((z ≡ w) × (TouchesOwn flat w → ⊥)))
apart-of_list flat items z old new are adds w = (
  λ a. elim ((adds w).0 a) [ inl b ↦ inl b | inr (e, none) ↦ inr (e, λ t. none (touches-item flat items w are t)) ],
  λ a. elim a [ inl b ↦ (adds w).1 (inl b) | inr (e, none) ↦ (adds w).1 (inr (e, λ t. none (touches-own flat items w are t))) ],
)

-- zones in the range are items in the range
pub items-within_list : (flat : List Zone) (items : List Item) → All (λ z. IsSolidWithin farthest z.rect) flat → AreZoneItems flat items → AreItemsWithin items
items-within_list flat items within are r k has =
    let (z, (i, i_in, i_is), e, f) = (are r k).0 has in
    subst (λ (u : Rect). IsSolidWithin farthest u) e (subst (λ (t : Zone). IsSolidWithin farthest t.rect) i_is (within i z i_in))

-- the items of the first n zones
abbrev pub OfFirstZones : List Zone → ℕ → List Item → Type 0
OfFirstZones zones n items = (r : Rect) (k : ℕ) → HasItem items r k ↔ ((z : Zone) × (i : ℕ) × (i < n) × (i < length zones) × (get_or zones i z ≡ z) × (z.rect ≡ r) × (z.feature ≡ k))

pub tree-none : (zones : List Zone) (items : List Item) → items ≡ [] → OfFirstZones zones 0 items
tree-none zones items none r k = (
  λ (t, c, e, f). absurd (let (i, i_in, is) = subst (λ (xs : List Item). Contains xs t) none c in omega (arith, i_in)),
  λ (z, i, l, i_in, is, e, f). absurd (omega (arith, l)),
)

pub tree-more : (zones : List Zone) (n : ℕ) (d : Zone) (old new : List Item) → n < length zones → OfFirstZones zones n old
    → ((r : Rect) (k : ℕ) → HasItem new r k ↔ (HasItem old r k ⊎ ((k ≡ (get_or zones n d).feature) × Contains ((get_or zones n d).rect ∷ []) r))) → OfFirstZones zones (n + 1) new
tree-more zones n d old new n_in before step r k =
    let z : Zone = get_or zones n d in (
      λ h. elim ((step r k).0 h) [
        | inl a ↦ (let (w, i, l, i_in, is, e, f) = (before r k).0 a in (w, i, omega (arith, l), i_in, is, e, f))
        | inr (own, c) ↦ (z, n, omega arith, n_in, get_or_default zones n z d n_in, of-one z.rect r c, sym own)
      ],
      λ (w, i, l, i_in, is, e, f). elim (cases_eq i n) [
        | inl same ↦
            (let here : z ≡ w = get_or_default zones n d w n_in ∙ (ap (λ (j : ℕ). get_or zones j w) (sym same) ∙ is) in
            (step r k).1 (inr (sym (ap (λ (u : Zone). u.feature) here ∙ f), (0, omega arith, ap (λ (u : Zone). u.rect) here ∙ e))))
        | inr ne ↦ (step r k).1 (inl ((before r k).1 (w, i, omega (arith, l, ne), i_in, is, e, f)))
      ],
    )
  where
    of-one : (s t : Rect) → Contains (s ∷ []) t → s ≡ t
    of-one s t (zero, l, e) = e
    of-one s t (suc i, l, e) = absurd (omega (arith, l))

pub tree-all : (zones : List Zone) (n : ℕ) (items tree : List Item) → length zones ≤ n → OfFirstZones zones n items → ((r : Rect) (k : ℕ) → HasItem tree r k ↔ HasItem items r k)
    → AreZoneItems zones tree
tree-all zones n items tree all h same r k = (
  λ a. (let (z, i, l, i_in, is, e, f) = (h r k).0 ((same r k).0 a) in (z, (i, i_in, is), e, f)),
  λ (z, (i, i_in, is), e, f). (same r k).1 ((h r k).1 (z, i, omega (arith, all, i_in), i_in, is, e, f)),
)

pub kept-more : (base flat zs : List Zone) (i : ℕ) (z : Zone) (old new : List Zone) → i < length zs → z ≡ get_or zs i z
    → ((w : Zone) → Contains old w ↔ (Contains base w ⊎ KeptOf flat zs i w)) → ((w : Zone) → Contains new w ↔ (Contains old w ⊎ ((z ≡ w) × (TouchesOwn flat w → ⊥))))
    → (w : Zone) → Contains new w ↔ (Contains base w ⊎ KeptOf flat zs (i + 1) w)
kept-more base flat zs i z old new i_in is before step w = (
  λ h. elim ((step w).0 h) [
    | inl a ↦ elim ((before w).0 a) [ inl b ↦ inl b | inr (k, l, k_in, k_is, f) ↦ inr (k, omega (arith, l), k_in, k_is, f) ]
    | inr (e, f) ↦ inr (i, omega arith, i_in, get_or_default zs i w z i_in ∙ (sym is ∙ e), f)
  ],
  λ h. elim h [
    | inl b ↦ (step w).1 (inl ((before w).1 (inl b)))
    | inr (k, l, k_in, k_is, f) ↦ elim (cases_eq k i) [
      | inl e ↦ (step w).1 (inr (is ∙ (get_or_default zs i z w i_in ∙ (ap (λ m. get_or zs m w) (sym e) ∙ k_is)), f))
      | inr ne ↦ (step w).1 (inl ((before w).1 (inr (k, omega (arith, l, ne), k_in, k_is, f))))
    ]
  ],
)

pub kept-none : (base flat zs kept : List Zone) → kept ≡ base → (w : Zone) → Contains kept w ↔ (Contains base w ⊎ KeptOf flat zs 0 w)
kept-none base flat zs kept is w = rw is ((λ h. inl h), (λ h. elim h [ inl a ↦ a | inr (k, l, k_in, k_is, f) ↦ absurd (omega (arith, l)) ]))

-- where there is no horizontal zone, all vertical ones are kept
pub joined-no_flat : (flat zs : List Zone) → length flat ≡ 0 → (w : Zone) → Contains zs w ↔ (Contains flat w ⊎ (Contains zs w × (TouchesOwn flat w → ⊥)))
joined-no_flat flat zs none w = (
  λ h. inr (h, λ (g, (i, i_in, i_is), e, touch). omega (arith, i_in, none)),
  λ h. elim h [ inl (i, i_in, i_is) ↦ absurd (omega (arith, i_in, none)) | inr (a, free) ↦ a ],
)

pub joined-no_upright : (flat zs : List Zone) → length zs ≡ 0 → (w : Zone) → Contains flat w ↔ (Contains flat w ⊎ (Contains zs w × (TouchesOwn flat w → ⊥)))
joined-no_upright flat zs none w = (λ h. inl h, λ h. elim h [ inl a ↦ a | inr ((i, i_in, i_is), free) ↦ absurd (omega (arith, i_in, none)) ])

pub kept-all : (base flat zs kept : List Zone) (n : ℕ) → length zs ≤ n
    → ((w : Zone) → Contains kept w ↔ (Contains base w ⊎ KeptOf flat zs n w)) → (w : Zone)
    → Contains kept w ↔ (Contains base w ⊎ (Contains zs w × (TouchesOwn flat w → ⊥)))
kept-all base flat zs kept n all h w = (
  λ a. elim ((h w).0 a) [ inl b ↦ inl b | inr (k, l, k_in, k_is, free) ↦ inr ((k, k_in, k_is), free) ],
  λ a. (h w).1 (elim a [ inl b ↦ inl b | inr ((k, k_in, k_is), free) ↦ inr (k, omega (arith, all, k_in), k_in, k_is, free) ]),
)
