-- Rectangles of owners.
use Rattle.std.proofs.Common.{◌≡◌, ℕ, ◌+◌, ◌-◌, ◌<◌, ◌≤◌, ◌⊎◌, inl, inr, List, [], ◌∷◌, ◌++◌, length, get_or, map, take, append-nil, sym, refl, ap, ◌∙◌, subst, arith}
use Rattle.std.specs.Prelude.{◌↔◌}
use Rattle.std.specs.List.{Contains}
use Rattle.std.proofs.lemmas.Bool.{cases_eq, cases_lt}
use Rattle.std.proofs.lemmas.List.{append_assoc, get_or_append_left, get_or_default, get_or-append_right, get_or-map, length-append, length-map, map_more, take_all}
use Rattle.std.proofs.lemmas.List.Elements.{Contains-append_cases, Contains-append_left, Contains-append_right}
use Rattle.dpl_spec_split.specs.declared.Rect.{Rect}
use Rattle.dpl_spec_split.specs.Loops.{farthest, AreRectsWithin}
use Rattle.dpl_spec_split.specs.Slabs.{AreSlabsOf, Follows, IsCanonical}
use Rattle.dpl_spec_split.specs.Squares.{Covers, IsSolidWithin}
use Rattle.dpl_spec_split.specs.Zones.{part_at, transposed, transposed_rect}
use Rattle.dpl_join.specs.declared.items.Item.{Item}
use Rattle.dpl_shade.specs.Items.{AreInOrder, AreOwnedWithin, IsOwned, OwnersRise}
use Rattle.dpl_shade.proofs.ItemLaws.{owned-at}
use Rattle.dpl_zone.specs.Owned.{AreSets, IsSetOf, owned_by, transposed_parts}
use Rattle.dpl_zone.proofs.TransposedLaws.{transposed-covers, within-slabs}

-- ---- a list grows by the items of rectangles

pub grown-none : (f : Rect → Item) (rects : List Rect) (base : List Item) → base ≡ base ++ map f (take 0 rects)
grown-none f rects base = sym (append-nil base)

pub grown-more : (f : Rect → Item) (rects : List Rect) (i : ℕ) (d : Rect) (base old new : List Item) → new ≡ old ++ f (get_or rects i d) ∷ [] → i < length rects
    → old ≡ base ++ map f (take i rects) → new ≡ base ++ map f (take (i + 1) rects)
grown-more f rects i d base old new new_is i_in so_far =
    new_is ∙ (ap (λ (xs : List Item). xs ++ f (get_or rects i d) ∷ []) so_far
    ∙ (append_assoc base (map f (take i rects)) (f (get_or rects i d) ∷ []) ∙ ap (λ (xs : List Item). base ++ xs) (sym (map_more f rects i d i_in))))

pub grown-all : (f : Rect → Item) (rects : List Rect) (i : ℕ) (base new : List Item) → length rects ≤ i → new ≡ base ++ map f (take i rects) → new ≡ base ++ map f rects
grown-all f rects i base new all so_far = so_far ∙ ap (λ (xs : List Rect). base ++ map f xs) (take_all i rects all)

by-owner : (k : ℕ) (rects : List Rect) (i : ℕ) (d : Item) → i < length rects → get_or (map (owned_by k) rects) i d ≡ owned_by k (get_or rects i d.rect)
by-owner k rects i d i_in = get_or-map (owned_by k) rects i d.rect d i_in

pub owned-grown : (old new : List Item) (k : ℕ) (rects : List Rect) → new ≡ old ++ map (owned_by k) rects → (r : Rect) (j : ℕ) → IsOwned new r j ↔ (IsOwned old r j ⊎ ((j ≡ k) × Contains rects r))
owned-grown old new k rects is r j = rw is (
  (λ (t, c, e, f). elim (Contains-append_cases old (map (owned_by k) rects) t c) [
    | inl a ↦ inl (t, a, e, f)
    | inr (i, l, at) ↦ (let i_in : i < length rects = omega (arith, l, length-map rects (owned_by k)) in
        let made : owned_by k (get_or rects i t.rect) ≡ t = sym (by-owner k rects i t i_in) ∙ at in
        inr (sym f ∙ sym (ap (λ (u : Item). u.owner) made), (i, i_in, get_or_default rects i r t.rect i_in ∙ (ap (λ (u : Item). u.rect) made ∙ e))))
  ]),
  (λ h. elim h [
    | inl (t, c, e, f) ↦ (t, Contains-append_left old (map (owned_by k) rects) t c, e, f)
    | inr (e, (i, i_in, at)) ↦ (
      owned_by k r,
      Contains-append_right old (map (owned_by k) rects) (owned_by k r) (i, omega (arith, i_in, length-map rects (owned_by k)), by-owner k rects i (owned_by k r) i_in ∙ ap (owned_by k) at),
      refl,
      sym e,
    )
  ]),
)

-- ---- parts, one after the other

pub record AreSetsTo (parts : List (List Rect)) (n : ℕ) (items : List Item) : Type 0 where
  pub known : (r : Rect) (k : ℕ) → IsOwned items r k → k < n
  pub each : (k : ℕ) → k < n → k < length parts → IsSetOf items k (part_at parts k)
  pub rise : OwnersRise items
  pub order : AreInOrder items

owned-none : (items : List Item) → items ≡ [] → (r : Rect) (k : ℕ) → IsOwned items r k → ⊥
owned-none items is r k (t, (i, l, at), e, f) = let none : i < length items = l in absurd (subst (λ (xs : List Item). i < length xs → ⊥) (sym is) (λ m. omega (arith, m)) none)

pub sets-none : (parts : List (List Rect)) (items : List Item) → items ≡ [] → AreSetsTo parts 0 items
sets-none parts items is = record {
  known = λ r k h. absurd (owned-none items is r k h);
  each = λ k l. absurd (omega (arith, l));
  rise = rw is (λ i j d l j_in. absurd (omega (arith, j_in)));
  order = rw is (λ i j d l j_in own. absurd (omega (arith, j_in)));
}

module _ (parts : List (List Rect)) (n : ℕ) (old new : List Item) (rects : List Rect) (n_in : n < length parts)
    (slabs : AreSlabsOf (part_at parts n) rects) (within : AreRectsWithin farthest rects) (items_is : new ≡ old ++ map (owned_by n) rects)
    (h : AreSetsTo parts n old) where
  grown : (r : Rect) (j : ℕ) → IsOwned new r j ↔ (IsOwned old r j ⊎ ((j ≡ n) × Contains rects r))
  grown = owned-grown old new n rects items_is

  set-next : (k : ℕ) → k < n + 1 → k < length parts → IsSetOf new k (part_at parts k)
  set-next k l k_in = elim (cases_eq k n) [
    | inl e ↦ record {
      rects = rects;
      slabs = subst (λ (j : ℕ). AreSlabsOf (part_at parts j) rects) (sym e) slabs;
      within = within;
      has = λ r. (
        λ o. elim ((grown r k).0 o) [ inl a ↦ absurd (let b = h.known r k a in omega (arith, b, e)) | inr (q, c) ↦ c ],
        λ c. (grown r k).1 (inr (e, c)),
      );
    }
    | inr ne ↦
        (let was = h.each k (omega (arith, l, ne)) k_in in
        record {
          rects = was.rects;
          slabs = was.slabs;
          within = was.within;
          has = λ r. (
            λ o. elim ((grown r k).0 o) [ inl a ↦ (was.has r).0 a | inr (q, c) ↦ absurd (ne q) ],
            λ c. (grown r k).1 (inl ((was.has r).1 c)),
          );
        })
  ]

  old-owner : (i : ℕ) (d : Item) → i < length old → (get_or old i d).owner < n
  old-owner i d l = h.known (get_or old i d).rect (get_or old i d).owner (owned-at old i d l)

  behind-is : (k : ℕ) (d : Item) → length old ≤ k → k < length (old ++ map (owned_by n) rects) → get_or (old ++ map (owned_by n) rects) k d ≡ owned_by n (get_or rects (k - length old) d.rect)
  behind-is k d a b =
      let k_in : k - length old < length rects = omega (arith, a, b, length-append old (map (owned_by n) rects), length-map rects (owned_by n)) in
      get_or-append_right old (map (owned_by n) rects) (length old) k d refl a ∙ by-owner n rects (k - length old) d k_in

  behind-owner : (k : ℕ) (d : Item) → length old ≤ k → k < length (old ++ map (owned_by n) rects) → (get_or (old ++ map (owned_by n) rects) k d).owner ≡ n
  behind-owner k d a b = ap (λ (u : Item). u.owner) (behind-is k d a b)

  rise-next : OwnersRise (old ++ map (owned_by n) rects)
  rise-next i j d l j_in = elim (cases_lt j (length old)) [
    | inl m ↦ rw (get_or_append_left old (map (owned_by n) rects) d i (omega (arith, l, m)), get_or_append_left old (map (owned_by n) rects) d j m) (h.rise i j d l m)
    | inr m ↦
        (let last = behind-owner j d m j_in in
        elim (cases_lt i (length old)) [
          | inl a ↦ (let first = ap (λ (u : Item). u.owner) (get_or_append_left old (map (owned_by n) rects) d i a) in let o = old-owner i d a in omega (arith, first, o, last))
          | inr a ↦ (let first = behind-owner i d a (omega (arith, l, j_in)) in omega (arith, first, last))
        ])
  ]

  order-next : AreInOrder (old ++ map (owned_by n) rects)
  order-next i j d l j_in = elim (cases_lt j (length old)) [
    | inl m ↦ rw (get_or_append_left old (map (owned_by n) rects) d i (omega (arith, l, m)), get_or_append_left old (map (owned_by n) rects) d j m) (h.order i j d l m)
    | inr m ↦ elim (cases_lt i (length old)) [
      | inl a ↦ (λ own. absurd
          (let first = ap (λ (u : Item). u.owner) (get_or_append_left old (map (owned_by n) rects) d i a) in
          let o = old-owner i d a in
          let last = behind-owner j d m j_in in
          omega (arith, first, o, last, own)))
      | inr a ↦ (λ own.
          (let last_in : j - length old < length rects = omega (arith, m, j_in, length-append old (map (owned_by n) rects), length-map rects (owned_by n)) in
          rw (behind-is i d a (omega (arith, l, j_in)), behind-is j d m j_in)
          (subst (λ (r : Rect). Follows (get_or rects (i - length old) d.rect) r) refl (slabs.canonical.follow (i - length old) (j - length old) d.rect (omega (arith, l, a, m)) last_in))))
    ]
  ]

  pub sets-more : AreSetsTo parts (n + 1) new
  sets-more = record {
    known = λ r k o. elim ((grown r k).0 o) [ inl a ↦ (let b = h.known r k a in omega (arith, b)) | inr (q, c) ↦ omega (arith, q) ];
    each = set-next;
    rise = subst OwnersRise (sym items_is) rise-next;
    order = subst AreInOrder (sym items_is) order-next;
  }

pub sets-all : (parts : List (List Rect)) (n : ℕ) (items : List Item) → n ≤ length parts → length parts ≤ n → AreSetsTo parts n items → AreSets parts items
sets-all parts n items few all h = record {
  known = λ r k o. (let l = h.known r k o in omega (arith, l, few));
  each = λ k l. h.each k (omega (arith, l, all)) l;
}

-- a part's slabs are those of its squares
pub slabs-of_part : (parts : List (List Rect)) (n : ℕ) (part : List Rect) → part ≡ get_or parts n [] → IsCanonical part → AreSlabsOf (part_at parts n) part
slabs-of_part parts n part is canonical = record { canonical = canonical; covers = λ p. (λ a. subst (λ (rs : List Rect). Covers rs p) is a, λ b. subst (λ (rs : List Rect). Covers rs p) (sym is) b) }

-- a part's columns are the slabs of the transposed part
pub columns-of_part : (parts : List (List Rect)) (n : ℕ) (part columns : List Rect) → n < length parts → part ≡ get_or parts n [] → AreSlabsOf (transposed (Covers part)) columns
    → AreSlabsOf (part_at (transposed_parts parts) n) columns
columns-of_part parts n part columns n_in is slabs =
    let turned : get_or (transposed_parts parts) n [] ≡ map transposed_rect part = get_or-map (map transposed_rect) parts n [] [] n_in ∙ ap (map transposed_rect) (sym is) in
    record {
      canonical = slabs.canonical;
      covers = λ p. (
        λ a. subst (λ (rs : List Rect). Covers rs p) (sym turned) ((transposed-covers part p).1 ((slabs.covers p).0 a)),
        λ b. (slabs.covers p).1 ((transposed-covers part p).0 (subst (λ (rs : List Rect). Covers rs p) turned b)),
      );
    }

pub sets-within : (parts : List (List Rect)) (items : List Item) → AreSets parts items → AreOwnedWithin items
sets-within parts items sets r k owned =
    let k_in = sets.known r k owned in
    let set = sets.each k k_in in
    let (i, i_in, at) = (set.has r).0 owned in
    subst (IsSolidWithin farthest) at (within-slabs set.rects set.slabs.canonical set.within i r i_in)
