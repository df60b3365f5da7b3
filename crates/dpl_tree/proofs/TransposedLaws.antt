-- Transposed trees.
use Rattle.std.proofs.Common.{◌≡◌, ℕ, zero, suc, ◌<◌, ◌≤◌, inl, inr, Bool, true, false, List, [], ◌∷◌, length, get_or, map, refl, arith}
use Rattle.std.proofs.lemmas.List.{length-map}
use Rattle.dpl_spec_split.specs.declared.Rect.{Rect}
use Rattle.dpl_spec_split.specs.Zones.{transposed_rect}
use Rattle.dpl_tree.specs.declared.items.Item.{Item}
use Rattle.dpl_tree.specs.declared.owners.Owners.{Owners}
use Rattle.dpl_tree.specs.Trees.{LiesApart, IsMissed, transposed_item, seen}

transposed-at : (items : List Item) (i : ℕ) (d : Item) → get_or (map transposed_item items) i (transposed_item d) ≡ transposed_item (get_or items i d)
transposed-at [] i d = refl
transposed-at (item ∷ items) zero d = refl
transposed-at (item ∷ items) (suc i) d = transposed-at items i d

pub transposed-get : (items : List Item) (i : ℕ) (d : Item) → get_or (map transposed_item items) i d ≡ transposed_item (get_or items i (transposed_item d))
transposed-get items i d = transposed-at items i (transposed_item d)

-- ---- a search of the transposed tree, by the transposed window

apart-transposed : (w r : Rect) → LiesApart (transposed_rect w) r → LiesApart w (transposed_rect r)
apart-transposed w r (inl a) = inr (inr (inl a))
apart-transposed w r (inr (inl a)) = inr (inr (inr a))
apart-transposed w r (inr (inr (inl a))) = inl a
apart-transposed w r (inr (inr (inr a))) = inr (inl a)

transposed-apart : (w r : Rect) → LiesApart w (transposed_rect r) → LiesApart (transposed_rect w) r
transposed-apart w r (inl a) = inr (inr (inl a))
transposed-apart w r (inr (inl a)) = inr (inr (inr a))
transposed-apart w r (inr (inr (inl a))) = inl a
transposed-apart w r (inr (inr (inr a))) = inr (inl a)

missed-transposed : (w : Rect) (o : Owners) (item : Item) → IsMissed (transposed_rect w) o item → IsMissed w o (transposed_item item)
missed-transposed w o item (inl a) = inl (apart-transposed w item.rect a)
missed-transposed w o item (inr a) = inr a

transposed-missed : (w : Rect) (o : Owners) (item : Item) → IsMissed w o (transposed_item item) → IsMissed (transposed_rect w) o item
transposed-missed w o item (inl a) = inl (transposed-apart w item.rect a)
transposed-missed w o item (inr a) = inr a

abbrev pub IsPassed : List Item → Rect → Owners → ℕ → ℕ → Type 0
IsPassed items w o from n = (j : ℕ) (d : Item) → from ≤ j → j < n → j < length items → IsMissed w o (get_or items j d)

abbrev pub IsFound : List Item → Rect → Owners → ℕ → Type 0
IsFound items w o n = (d : Item) → n < length items → ¬ IsMissed w o (get_or items n d)

pub passed-transposed : (items : List Item) (w : Rect) (o : Owners) (from n : ℕ) → IsPassed items (transposed_rect w) o from n → IsPassed (map transposed_item items) w o from n
passed-transposed items w o from n h j d a b l =
    rw (transposed-get items j d) (missed-transposed w o (get_or items j (transposed_item d)) (h j (transposed_item d) a b (omega (arith, l, length-map items transposed_item))))

pub found-transposed : (items : List Item) (w : Rect) (o : Owners) (n : ℕ) → IsFound items (transposed_rect w) o n → IsFound (map transposed_item items) w o n
found-transposed items w o n h d l =
    let f = h (transposed_item d) (omega (arith, l, length-map items transposed_item)) in
    rw (transposed-get items n d) (λ m. f (transposed-missed w o (get_or items n (transposed_item d)) m))

-- ---- by the way that the tree is seen

pub seen-true : (b : Bool) (items : List Item) → b ≡ true → seen b items ≡ map transposed_item items
seen-true true items e = refl
seen-true false items e = absurd (let q : ⊥ = cc in q)
