-- The rectangles of items.
use Rattle.std.proofs.Common.{◌≡◌, ◌≢◌, ℕ, zero, suc, ◌<◌, ◌⊎◌, inl, inr, Bool, true, false, not, cond, ◌==◌, List, [], ◌∷◌, length, get_or}
use Rattle.std.proofs.Common.{sym, refl, ap, ◌∙◌, subst, arith, rules}
use Rattle.std.specs.List.{Contains}
use Rattle.std.proofs.lemmas.List.{get_or_default}
use Rattle.dpl_spec_split.specs.declared.Rect.{Rect}
use Rattle.dpl_spec_split.specs.Loops.{farthest}
use Rattle.dpl_spec_split.specs.Squares.{IsSolidWithin}
use Rattle.dpl_join.specs.declared.items.Item.{Item}
use Rattle.dpl_shade.specs.Items.{AreOwnedWithin, IsOwned, others_in, own_in}
use Rattle.dpl_shade.specs.Rows.{AreWithin}

pub owned-at : (items : List Item) (n : ℕ) (d : Item) → n < length items → IsOwned items (get_or items n d).rect (get_or items n d).owner
owned-at items n d n_in = (get_or items n d, (n, n_in, get_or_default items n (get_or items n d) d n_in), refl, refl)

pub owned-within : (items : List Item) (n : ℕ) (d : Item) → AreOwnedWithin items → n < length items → IsSolidWithin farthest (get_or items n d).rect
owned-within items n d within n_in = within (get_or items n d).rect (get_or items n d).owner (owned-at items n d n_in)

is-other : (own : ℕ) (item : Item) → not (item.owner == own) ≡ true → item.owner ≢ own
is-other own item h = search rules

other-is : (own : ℕ) (item : Item) → item.owner ≢ own → not (item.owner == own) ≡ true
other-is own item h = search rules

is-own : (own : ℕ) (item : Item) → (item.owner == own) ≡ true → item.owner ≡ own
is-own own item h = search rules

own-is : (own : ℕ) (item : Item) → item.owner ≡ own → (item.owner == own) ≡ true
own-is own item h = search rules

item-first : (item : Item) (items : List Item) (r : Rect) (k : ℕ) → item.rect ≡ r → item.owner ≡ k → IsOwned (item ∷ items) r k
item-first item items r k e f = (item, (0, omega arith, refl), e, f)

item-later : (item : Item) (items : List Item) (r : Rect) (k : ℕ) → IsOwned items r k → IsOwned (item ∷ items) r k
item-later item items r k (t, (i, l, is), e, f) = (t, (suc i, omega (arith, l), is), e, f)

item-cases : (item : Item) (items : List Item) (r : Rect) (k : ℕ) → IsOwned (item ∷ items) r k → ((item.rect ≡ r) × (item.owner ≡ k)) ⊎ IsOwned items r k
item-cases item items r k (t, (zero, l, is), e, f) = inl (ap (λ (u : Item). u.rect) is ∙ e, ap (λ (u : Item). u.owner) is ∙ f)
item-cases item items r k (t, (suc i, l, is), e, f) = inr (t, (i, omega (arith, l), is), e, f)

contains-cond : (b : Bool) (x : Rect) (xs : List Rect) (r : Rect) → Contains (cond b (x ∷ xs) xs) r → ((b ≡ true) × (x ≡ r)) ⊎ Contains xs r
contains-cond true x xs r (zero, l, is) = inl (refl, is)
contains-cond true x xs r (suc i, l, is) = inr (i, omega (arith, l), is)
contains-cond false x xs r h = inr h

cond-first : (b : Bool) (x : Rect) (xs : List Rect) → b ≡ true → Contains (cond b (x ∷ xs) xs) x
cond-first true x xs e = (0, omega arith, refl)
cond-first false x xs e = absurd (let q : ⊥ = cc in q)

cond-later : (b : Bool) (x : Rect) (xs : List Rect) (r : Rect) → Contains xs r → Contains (cond b (x ∷ xs) xs) r
cond-later true x xs r (i, l, is) = (suc i, omega (arith, l), is)
cond-later false x xs r h = h

pub others-in : (items : List Item) (own : ℕ) (r : Rect) → Contains (others_in items own) r → (k : ℕ) × (k ≢ own) × IsOwned items r k
others-in [] own r (i, l, is) = absurd (omega (arith, l))
others-in (item ∷ items) own r h = elim (contains-cond (not (item.owner == own)) item.rect (others_in items own) r h) [
  | inl (t, e) ↦ (item.owner, is-other own item t, item-first item items r item.owner e refl)
  | inr c ↦ (let (k, ne, has) = others-in items own r c in (k, ne, item-later item items r k has))
]

pub in-others : (items : List Item) (own : ℕ) (r : Rect) (k : ℕ) → k ≢ own → IsOwned items r k → Contains (others_in items own) r
in-others [] own r k ne (t, (i, l, is), e, f) = absurd (omega (arith, l))
in-others (item ∷ items) own r k ne h = elim (item-cases item items r k h) [
  | inl (e, f) ↦ subst (λ s. Contains (others_in (item ∷ items) own) s) e
      (cond-first (not (item.owner == own)) item.rect (others_in items own) (other-is own item (λ q. ne (sym f ∙ q))))
  | inr later ↦ cond-later (not (item.owner == own)) item.rect (others_in items own) r (in-others items own r k ne later)
]

pub own-in : (items : List Item) (own : ℕ) (r : Rect) → Contains (own_in items own) r → IsOwned items r own
own-in [] own r (i, l, is) = absurd (omega (arith, l))
own-in (item ∷ items) own r h = elim (contains-cond (item.owner == own) item.rect (own_in items own) r h) [
  | inl (t, e) ↦ item-first item items r own e (is-own own item t)
  | inr c ↦ item-later item items r own (own-in items own r c)
]

pub in-own : (items : List Item) (own : ℕ) (r : Rect) → IsOwned items r own → Contains (own_in items own) r
in-own [] own r (t, (i, l, is), e, f) = absurd (omega (arith, l))
in-own (item ∷ items) own r h = elim (item-cases item items r own h) [
  | inl (e, f) ↦ subst (λ s. Contains (own_in (item ∷ items) own) s) e (cond-first (item.owner == own) item.rect (own_in items own) (own-is own item f))
  | inr later ↦ cond-later (item.owner == own) item.rect (own_in items own) r (in-own items own r later)
]

pub others-within : (items : List Item) (own : ℕ) → AreOwnedWithin items → AreWithin (others_in items own)
others-within items own within i d l =
    let (k, ne, has) = others-in items own (get_or (others_in items own) i d) (i, l, get_or_default (others_in items own) i (get_or (others_in items own) i d) d l) in
    within (get_or (others_in items own) i d) k has
