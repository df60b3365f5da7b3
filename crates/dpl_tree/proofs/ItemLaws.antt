-- Items of rectangles.
use Rattle.std.proofs.Common.{◌≡◌, ℕ, ◌+◌, ◌<◌, ◌≤◌, ◌⊎◌, inl, inr, List, [], ◌∷◌, ◌++◌, length, get_or, sym, ap, refl, ◌∙◌, subst, arith}
use Rattle.std.specs.Prelude.{◌↔◌}
use Rattle.std.specs.List.{Contains}
use Rattle.std.proofs.lemmas.Bool.{cases_eq}
use Rattle.std.specs.List.Sorted.{IsPermutation}
use Rattle.std.proofs.lemmas.List.{get_or_default}
use Rattle.std.proofs.lemmas.List.Elements.{Contains-append_left, Contains-push, Contains-push_cases}
use Rattle.std.proofs.lemmas.List.Sorted.{IsPermutation-sym, Contains-permutation}
use Rattle.dpl_spec_split.specs.declared.Rect.{Rect}
use Rattle.dpl_tree.specs.declared.items.Item.{Item}
use Rattle.dpl_tree.specs.Trees.{HasItem}

-- one of the first n rectangles
abbrev pub AmongRects : List Rect → ℕ → Rect → Type 0
AmongRects rs n r = (i : ℕ) × (i < n) × (i < length rs) × (get_or rs i r ≡ r)

-- the items of an owner's first n rectangles are added
abbrev pub AddsRects : ℕ → List Rect → ℕ → List Item → List Item → Type 0
AddsRects owner rects n old new = (r : Rect) (k : ℕ) → HasItem new r k ↔ (HasItem old r k ⊎ ((k ≡ owner) × AmongRects rects n r))

pub item-none : (owner : ℕ) (rects : List Rect) (old : List Item) → AddsRects owner rects 0 old old
item-none owner rects old r k = (λ h. inl h, λ h. elim h [ inl a ↦ a | inr (e, (i, l, i_in, is)) ↦ absurd (omega (arith, l)) ])

pub item-more : (owner : ℕ) (rects : List Rect) (i : ℕ) (base old new : List Item) (item : Item) → new ≡ old ++ item ∷ []
    → i < length rects → item.rect ≡ get_or rects i item.rect → item.owner ≡ owner
    → AddsRects owner rects i base old → AddsRects owner rects (i + 1) base new
item-more owner rects i base old new item new_is i_in rect own before r k =
    rw new_is (
      (λ (t, c, e, f). elim (Contains-push_cases old item t c) [
        | inl a ↦ elim ((before r k).0 (t, a, e, f)) [ inl b ↦ inl b | inr (g, (j, l, j_in, is)) ↦ inr (g, (j, omega (arith, l), j_in, is)) ]
        | inr same ↦ inr (
          sym f ∙ (ap (λ u. let v : Item = u in v.owner) (sym same) ∙ own),
          (i, omega arith, i_in, get_or_default rects i r item.rect i_in ∙ (sym rect ∙ (ap (λ u. let v : Item = u in v.rect) same ∙ e))),
        )
      ]),
      (λ h. elim h [
        | inl b ↦ old_item ((before r k).1 (inl b))
        | inr (g, (j, l, j_in, is)) ↦ elim (cases_eq j i) [
          | inl same ↦ (item, Contains-push old item, rect ∙ (get_or_default rects i item.rect r i_in ∙ (ap (λ m. get_or rects m r) (sym same) ∙ is)), own ∙ sym g)
          | inr ne ↦ old_item ((before r k).1 (inr (g, (j, omega (arith, l, ne), j_in, is))))
        ]
      ]),
    )
  where
    old_item : HasItem old r k → HasItem (old ++ item ∷ []) r k
    old_item (t, c, e, f) = (t, Contains-append_left old (item ∷ []) t c, e, f)

pub item-all : (owner : ℕ) (rects : List Rect) (n : ℕ) (old new : List Item) → length rects ≤ n → AddsRects owner rects n old new
    → (r : Rect) (k : ℕ) → HasItem new r k ↔ (HasItem old r k ⊎ ((k ≡ owner) × Contains rects r))
item-all owner rects n old new all h r k = (
  λ a. elim ((h r k).0 a) [ inl b ↦ inl b | inr (e, (i, l, i_in, is)) ↦ inr (e, (i, i_in, is)) ],
  λ a. elim a [ inl b ↦ (h r k).1 (inl b) | inr (e, (i, i_in, is)) ↦ (h r k).1 (inr (e, (i, omega (arith, all, i_in), i_in, is))) ],
)

-- the items of the first n parts
abbrev pub OfParts : List (List Rect) → ℕ → List Item → Type 0
OfParts parts n items = (r : Rect) (k : ℕ) → HasItem items r k ↔ ((k < n) × (k < length parts) × Contains (get_or parts k []) r)

pub parts-none : (parts : List (List Rect)) (items : List Item) → items ≡ [] → OfParts parts 0 items
parts-none parts items none r k = rw none ((λ (t, (i, i_in, is), e, f). absurd (omega (arith, i_in))), (λ (a, b, c). absurd (omega (arith, a))))

pub parts-more : (parts : List (List Rect)) (n : ℕ) (old new : List Item) (part : List Rect) → n < length parts → part ≡ get_or parts n [] → OfParts parts n old
    → ((r : Rect) (k : ℕ) → HasItem new r k ↔ (HasItem old r k ⊎ ((k ≡ n) × Contains part r))) → OfParts parts (n + 1) new
parts-more parts n old new part n_in is before step r k = (
  λ h. elim ((step r k).0 h) [
    | inl a ↦ (let (l, k_in, c) = (before r k).0 a in (omega (arith, l), k_in, c))
    | inr (e, c) ↦ (omega (arith, e), omega (arith, e, n_in), subst (λ s. Contains s r) (is ∙ ap (λ m. get_or parts m []) (sym e)) c)
  ],
  λ (l, k_in, c). elim (cases_eq k n) [
    | inl e ↦ (step r k).1 (inr (e, subst (λ s. Contains s r) (ap (λ m. get_or parts m []) e ∙ sym is) c))
    | inr ne ↦ (step r k).1 (inl ((before r k).1 (omega (arith, l, ne), k_in, c)))
  ],
)

pub parts-all : (parts : List (List Rect)) (n : ℕ) (items : List Item) → length parts ≤ n → OfParts parts n items → (r : Rect) (k : ℕ)
    → HasItem items r k ↔ ((k < length parts) × Contains (get_or parts k []) r)
parts-all parts n items all h r k = (
  λ a. (let (l, k_in, c) = (h r k).0 a in (k_in, c)),
  λ (k_in, c). (h r k).1 (omega (arith, all, k_in), k_in, c),
)

-- the items of a tree of one owner's rectangles
pub items-one : (rects : List Rect) (none items : List Item) (tree : List Item) → none ≡ []
    → ((r : Rect) (k : ℕ) → HasItem items r k ↔ (HasItem none r k ⊎ ((k ≡ 0) × Contains rects r)))
    → ((r : Rect) (k : ℕ) → HasItem tree r k ↔ HasItem items r k) → (r : Rect) (k : ℕ) → HasItem tree r k ↔ ((k ≡ 0) × Contains rects r)
items-one rects none items tree e added same r k = (
  λ h. elim ((added r k).0 ((same r k).0 h)) [
    | inl (t, c, q, q') ↦ absurd (let (i, i_in, is) = subst (λ s. Contains s t) e c in omega (arith, i_in))
    | inr h' ↦ h'
  ],
  λ h. (same r k).1 ((added r k).1 (inr h)),
)

-- an item of the list is one
pub item-at : (items : List Item) (n : ℕ) (d : Item) → n < length items → HasItem items (get_or items n d).rect (get_or items n d).owner
item-at items n d n_in = (get_or items n d, (n, n_in, get_or_default items n (get_or items n d) d n_in), refl, refl)

pub item-is : (items : List Item) (n : ℕ) (item : Item) → n < length items → ((d : Item) → item ≡ get_or items n d) → HasItem items item.rect item.owner
item-is items n item n_in is = (item, (n, n_in, sym (is item)), refl, refl)

pub items-sorted : (items sorted : List Item) → IsPermutation items sorted → (r : Rect) (k : ℕ) → HasItem sorted r k ↔ HasItem items r k
items-sorted items sorted same r k = (
  λ (t, c, e, f). (t, Contains-permutation sorted items t (IsPermutation-sym items sorted same) c, e, f),
  λ (t, c, e, f). (t, Contains-permutation items sorted t same c, e, f),
)
