-- The slabs of parts as items.
use Rattle.std.proofs.Common.{◌≡◌, ℕ, ◌+◌, ◌<◌, ◌≤◌, List, [], length, get_or, refl, sym, ap, subst, arith}
use Rattle.std.specs.Prelude.{◌↔◌}
use Rattle.std.specs.List.{All, Contains}
use Rattle.std.proofs.lemmas.List.Elements.{Contains-get_or}
use Rattle.dpl_spec_split.specs.declared.Rect.{Rect}
use Rattle.dpl_join.specs.declared.items.Item.{Item}
use Rattle.dpl_tile.specs.declared.grid.Grid.{Grid}
use Rattle.dpl_tile.specs.Adding.{Adds}
use Rattle.dpl_tile.specs.Kept.{AreOver, IsOver}
use Rattle.dpl_tile.specs.Meetings.{AreItemsOf}
use Rattle.dpl_tile.proofs.Adding.{OfFirst, added-to_none, adds-next, adds-same}
use Rattle.dpl_tile.proofs.Loops.{OfSome}

-- the item of a slab
abbrev pub IsSlabItem : ℕ → Rect → Item → Type 0
IsSlabItem owner r item = item ≡ record { rect = r; owner = owner }

slab-items : (owner : ℕ) (rects : List Rect) (item : Item) → OfSome (IsSlabItem owner) rects item ↔ ((item.owner ≡ owner) × Contains rects item.rect)
slab-items owner rects item = (
  λ (r, c, e). (ap (λ (i : Item). i.owner) e, subst (Contains rects) (sym (ap (λ (i : Item). i.rect) e)) c),
  λ (own, c). (item.rect, c, ap (λ (n : ℕ). let i : Item = record { rect = item.rect; owner = n } in i) own),
)

pub slabs-all : (owner : ℕ) (rects : List Rect) (old new : List Item) → Adds (OfSome (IsSlabItem owner) rects) old new
    → Adds (λ (item : Item). (item.owner ≡ owner) × Contains rects item.rect) old new
slabs-all owner rects old new h = adds-same (OfSome (IsSlabItem owner) rects) (λ (item : Item). (item.owner ≡ owner) × Contains rects item.rect) old new (slab-items owner rects) h

-- an item of part k
abbrev pub OfPart : List (List Rect) → ℕ → Item → Type 0
OfPart parts k item = (item.owner ≡ k) × (k < length parts) × Contains (get_or parts k []) item.rect

pub part-more : (parts : List (List Rect)) (n : ℕ) (base old new : List Item) (part : List Rect) → n < length parts → part ≡ get_or parts n []
    → Adds (OfFirst (OfPart parts) n) base old → Adds (λ (item : Item). (item.owner ≡ n) × Contains part item.rect) old new → Adds (OfFirst (OfPart parts) (n + 1)) base new
part-more parts n base old new part n_in is before step =
    adds-next (OfPart parts) n (n + 1) base old new (omega arith) (λ m e a b k. omega (arith, a, b)) before
    (adds-same (λ (item : Item). (item.owner ≡ n) × Contains part item.rect) (OfPart parts n) old new
    (λ item. (
      λ (own, c). (own, n_in, subst (λ s. Contains s item.rect) is c),
      λ (own, l, c). (own, subst (λ s. Contains s item.rect) (sym is) c),
    )) step)

pub parts-all : (parts : List (List Rect)) (n : ℕ) (none items : List Item) → length parts ≤ n → none ≡ [] → Adds (OfFirst (OfPart parts) n) none items → AreItemsOf parts items
parts-all parts n none items all is adds item =
    let h = added-to_none (OfFirst (OfPart parts) n) none items is adds item in (
      λ c. (let (m, l, (own, m_in, r)) = h.0 c in (omega (arith, own, m_in), subst (λ k. Contains (get_or parts k []) item.rect) (sym own) r)),
      λ (k_in, r). h.1 (item.owner, omega (arith, all, k_in), (refl, k_in, r)),
    )

pub items-over : (g : Grid) (parts : List (List Rect)) (items : List Item) → AreItemsOf parts items → All (AreOver g) parts → All (λ (item : Item). IsOver g item.rect) items
items-over g parts items are over k d k_in =
    let item = get_or items k d in
    let (n_in, c) = (are item).0 (Contains-get_or items k d k_in) in
    over item.owner [] n_in item.rect c

pub items-owned : (parts : List (List Rect)) (owners : List ℕ) (items : List Item) → length owners ≡ length parts → AreItemsOf parts items → All (λ (item : Item). item.owner < length owners) items
items-owned parts owners items each are k d k_in =
    let item = get_or items k d in
    let (n_in, c) = (are item).0 (Contains-get_or items k d k_in) in
    omega (arith, each, n_in)
