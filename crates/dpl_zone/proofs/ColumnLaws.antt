-- The columns of some parts, one behind the other.
use Rattle.std.proofs.Common.{◌≡◌, ℕ, ◌+◌, ◌-◌, ◌<◌, ◌≤◌, ◌⊎◌, inl, inr, List, [], ◌++◌, length, get_or, map, sym, refl, ap, subst, arith, rules}
use Rattle.std.specs.Prelude.{◌↔◌}
use Rattle.std.specs.List.{Contains}
use Rattle.std.proofs.lemmas.Bool.{cases_lt}
use Rattle.std.proofs.lemmas.List.{get_or_append_left, get_or-append_right, get_or-map, length-append, length-map}
use Rattle.std.proofs.lemmas.List.Elements.{Contains-append_cases, Contains-append_left, Contains-append_right}
use Rattle.dpl_spec_split.specs.declared.Rect.{Rect}
use Rattle.dpl_spec_split.specs.Loops.{farthest, AreRectsWithin}
use Rattle.dpl_spec_split.specs.Slabs.{AreSlabsOf}
use Rattle.dpl_spec_split.specs.Zones.{part_at, transposed_rect}
use Rattle.dpl_join.specs.declared.items.Item.{Item}
use Rattle.dpl_shade.specs.Items.{AreInOrder, IsOwned, OwnersRise}
use Rattle.dpl_shade.proofs.ItemLaws.{owned-at}
use Rattle.dpl_zone.specs.Columns.{AreColumns, AreSetsBetween}
use Rattle.dpl_zone.specs.Owned.{AreSets, IsSetOf, owned_by, transposed_parts}
use Rattle.dpl_zone.proofs.OwnedLaws.{owned-grown}

owned-none : (items : List Item) → items ≡ [] → (r : Rect) (k : ℕ) → IsOwned items r k → ⊥
owned-none items is r k (t, (i, l, at), e, f) = let none : i < length items = l in absurd (subst (λ (xs : List Item). i < length xs → ⊥) (sym is) (λ m. omega (arith, m)) none)

pub sets-none : (parts : List (List Rect)) (start : ℕ) (items : List Item) → items ≡ [] → AreSetsBetween parts start start items
sets-none parts start items is = record {
  known = λ r k h. absurd (owned-none items is r k h);
  each = λ k low high. absurd (omega (arith, low, high));
  rise = rw is (λ i j d l j_in. absurd (omega (arith, j_in)));
  order = rw is (λ i j d l j_in own. absurd (omega (arith, j_in)));
}

-- ---- the slabs of one part

module _ (parts : List (List Rect)) (n : ℕ) (rects : List Rect) (slabs : AreSlabsOf (part_at parts n) rects) (within : AreRectsWithin farthest rects) where
  owned-one : (r : Rect) (j : ℕ) → IsOwned (map (owned_by n) rects) r j ↔ (IsOwned [] r j ⊎ ((j ≡ n) × Contains rects r))
  owned-one = owned-grown [] (map (owned_by n) rects) n rects (search rules)

  owned-is : (i : ℕ) (d : Item) → i < length rects → get_or (map (owned_by n) rects) i d ≡ owned_by n (get_or rects i d.rect)
  owned-is i d l = get_or-map (owned_by n) rects i d.rect d l

  owner-is : (i : ℕ) (d : Item) → i < length (map (owned_by n) rects) → (get_or (map (owned_by n) rects) i d).owner ≡ n
  owner-is i d l = ap (λ (u : Item). u.owner) (owned-is i d (omega (arith, l, length-map rects (owned_by n))))

  order-one : AreInOrder (map (owned_by n) rects)
  order-one i j d l j_in own =
      let at : j < length rects = omega (arith, j_in, length-map rects (owned_by n)) in
      rw (owned-is i d (omega (arith, l, at)), owned-is j d at) (slabs.canonical.follow i j d.rect l at)

  pub sets-one : AreSetsBetween parts n (n + 1) (map (owned_by n) rects)
  sets-one = record {
    known = λ r k o. elim ((owned-one r k).0 o) [ inl a ↦ absurd (owned-none [] refl r k a) | inr (e, c) ↦ (omega (arith, e), omega (arith, e)) ];
    each = λ k low high.
        let e : k ≡ n = omega (arith, low, high) in
        record {
          rects = rects;
          slabs = subst (λ (j : ℕ). AreSlabsOf (part_at parts j) rects) (sym e) slabs;
          within = within;
          has = λ r. (
            λ o. elim ((owned-one r k).0 o) [ inl a ↦ absurd (owned-none [] refl r k a) | inr (q, c) ↦ c ],
            λ c. (owned-one r k).1 (inr (e, c)),
          );
        };
    rise = λ i j d l j_in. let first = owner-is i d (omega (arith, l, j_in)) in let last = owner-is j d j_in in omega (arith, first, last);
    order = order-one;
  }

-- ---- two lists, one behind the other

owned-both : (xs ys : List Item) (r : Rect) (k : ℕ) → IsOwned (xs ++ ys) r k ↔ (IsOwned xs r k ⊎ IsOwned ys r k)
owned-both xs ys r k = (
  λ (t, c, e, f). elim (Contains-append_cases xs ys t c) [ inl a ↦ inl (t, a, e, f) | inr b ↦ inr (t, b, e, f) ],
  λ h. elim h [
    | inl (t, c, e, f) ↦ (t, Contains-append_left xs ys t c, e, f)
    | inr (t, c, e, f) ↦ (t, Contains-append_right xs ys t c, e, f)
  ],
)

module _ (parts : List (List Rect)) (start middle end : ℕ) (xs ys : List Item) (from : start ≤ middle) (to : middle ≤ end)
    (a : AreSetsBetween parts start middle xs) (b : AreSetsBetween parts middle end ys) where
  set-both : (k : ℕ) → start ≤ k → k < end → IsSetOf (xs ++ ys) k (part_at parts k)
  set-both k low high = elim (cases_lt k middle) [
    | inl l ↦
        (let was = a.each k low l in
        record {
          rects = was.rects;
          slabs = was.slabs;
          within = was.within;
          has = λ r. (
            λ o. elim ((owned-both xs ys r k).0 o) [ inl p ↦ (was.has r).0 p | inr q ↦ absurd (let n = (b.known r k q).0 in omega (arith, n, l)) ],
            λ c. (owned-both xs ys r k).1 (inl ((was.has r).1 c)),
          );
        })
    | inr m ↦
        (let was = b.each k m high in
        record {
          rects = was.rects;
          slabs = was.slabs;
          within = was.within;
          has = λ r. (
            λ o. elim ((owned-both xs ys r k).0 o) [ inl p ↦ absurd (let n = (a.known r k p).1 in omega (arith, n, m)) | inr q ↦ (was.has r).0 q ],
            λ c. (owned-both xs ys r k).1 (inr ((was.has r).1 c)),
          );
        })
  ]

  first-owner : (i : ℕ) (d : Item) → i < length xs → (get_or xs i d).owner < middle
  first-owner i d l = (a.known (get_or xs i d).rect (get_or xs i d).owner (owned-at xs i d l)).1

  second-owner : (i : ℕ) (d : Item) → i < length ys → middle ≤ (get_or ys i d).owner
  second-owner i d l = (b.known (get_or ys i d).rect (get_or ys i d).owner (owned-at ys i d l)).0

  second-is : (k : ℕ) (d : Item) → length xs ≤ k → get_or (xs ++ ys) k d ≡ get_or ys (k - length xs) d
  second-is k d l = get_or-append_right xs ys (length xs) k d refl l

  rise-both : OwnersRise (xs ++ ys)
  rise-both i j d l j_in = elim (cases_lt j (length xs)) [
    | inl m ↦ rw (get_or_append_left xs ys d i (omega (arith, l, m)), get_or_append_left xs ys d j m) (a.rise i j d l m)
    | inr m ↦
        (let at : j - length xs < length ys = omega (arith, m, j_in, length-append xs ys) in
        elim (cases_lt i (length xs)) [
          | inl p ↦ rw (get_or_append_left xs ys d i p, second-is j d m) (let f = first-owner i d p in let s = second-owner (j - length xs) d at in omega (arith, f, s))
          | inr p ↦ rw (second-is i d p, second-is j d m) (b.rise (i - length xs) (j - length xs) d (omega (arith, l, p, m)) at)
        ])
  ]

  order-both : AreInOrder (xs ++ ys)
  order-both i j d l j_in = elim (cases_lt j (length xs)) [
    | inl m ↦ rw (get_or_append_left xs ys d i (omega (arith, l, m)), get_or_append_left xs ys d j m) (a.order i j d l m)
    | inr m ↦
        (let at : j - length xs < length ys = omega (arith, m, j_in, length-append xs ys) in
        elim (cases_lt i (length xs)) [
          | inl p ↦ rw (get_or_append_left xs ys d i p, second-is j d m)
              (λ own. absurd (let f = first-owner i d p in let s = second-owner (j - length xs) d at in omega (arith, f, s, own)))
          | inr p ↦ rw (second-is i d p, second-is j d m) (b.order (i - length xs) (j - length xs) d (omega (arith, l, p, m)) at)
        ])
  ]

  pub sets-both : AreSetsBetween parts start end (xs ++ ys)
  sets-both = record {
    known = λ r k o. elim ((owned-both xs ys r k).0 o) [
      | inl p ↦ (let n = a.known r k p in (n.0, let l = n.1 in omega (arith, l, to)))
      | inr q ↦ (let n = b.known r k q in (let l = n.0 in omega (arith, l, from), n.1))
    ];
    each = set-both;
    rise = rise-both;
    order = order-both;
  }

-- the slabs of the next part
pub sets-more : (parts : List (List Rect)) (start n : ℕ) (old new : List Item) (rects : List Rect) → start ≤ n → AreSlabsOf (part_at parts n) rects → AreRectsWithin farthest rects
    → new ≡ old ++ map (owned_by n) rects → AreSetsBetween parts start n old → AreSetsBetween parts start (n + 1) new
sets-more parts start n old new rects from slabs within is h =
    rw is (sets-both parts start n (n + 1) old (map (owned_by n) rects) from (omega arith) h (sets-one parts n rects slabs within))

pub sets-of_columns : (parts : List (List Rect)) (items : List Item) → AreColumns parts items → AreSets (transposed_parts parts) items
sets-of_columns parts items h =
    let same = length-map parts (map transposed_rect) in
    record {
      known = λ r k o. (let l = (h.known r k o).1 in omega (arith, l, same));
      each = λ k l. h.each k (omega arith) (omega (arith, l, same));
    }
