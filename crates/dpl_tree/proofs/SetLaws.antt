-- Sets of squares in a search tree.
use Rattle.std.proofs.Common.{◌≡◌, ℕ, ◌<◌, ◌⊎◌, inl, inr, List, [], length, get_or, sym, refl, ap, subst, arith}
use Rattle.std.specs.Prelude.{ℤ, ◌<ℤ◌, ◌≤ℤ◌, ◌↔◌}
use Rattle.std.specs.List.{All, Contains}
use Rattle.std.proofs.lemmas.Int.{ints, by_lt_z}
use Rattle.std.proofs.lemmas.Bool.{cases_lt}
use Rattle.std.proofs.lemmas.List.Elements.{All-contains, All-contains_itself, All-weaker, Contains-get_or}
use Rattle.dpl_spec_split.specs.declared.Pt.{Pt}
use Rattle.dpl_spec_split.specs.declared.Rect.{Rect}
use Rattle.dpl_spec_split.specs.Squares.{Covers, Has, SameSquares}
use Rattle.dpl_spec_split.specs.Slabs.{IsSolid}
use Rattle.dpl_spec_split.specs.Zones.{at}
use Rattle.dpl_spec_split.proofs.Ordered.{has-map, map-has}
use Rattle.dpl_tree.specs.declared.items.Item.{Item}
use Rattle.dpl_tree.specs.declared.owners.Owners.TheVariants.{All as Everyone}
use Rattle.dpl_tree.specs.Trees.{HasItem, LiesApart, IsMissed, ArePassed, rects_of}

rect-item : (items : List Item) (r : Rect) → Contains (rects_of items) r → (k : ℕ) × HasItem items r k
rect-item items r c = let (item, there, is) = has-map (λ t. let u : Item = t in u.rect) items r c in (item.owner, (item, there, is, refl))

item-rect : (items : List Item) (r : Rect) (k : ℕ) → HasItem items r k → Contains (rects_of items) r
item-rect items r k (item, there, is, own) = map-has (λ t. let u : Item = t in u.rect) items item r there is

-- the items are the set's slabs
abbrev pub AreSetItems : List Rect → List Item → Type 0
AreSetItems set items = (r : Rect) (k : ℕ) → HasItem items r k ↔ ((k ≡ 0) × Contains set r)

-- what a list of items and then a tree were made of
pub set-items : (set rects : List Rect) (none items tree : List Item) → none ≡ [] → rects ≡ set
    → ((r : Rect) (k : ℕ) → HasItem items r k ↔ (HasItem none r k ⊎ ((k ≡ 0) × Contains rects r)))
    → ((r : Rect) (k : ℕ) → HasItem tree r k ↔ HasItem items r k) → AreSetItems set tree
set-items set rects none items tree is_none same added made r k = (
  λ h. elim ((added r k).0 ((made r k).0 h)) [
    | inl (item, (j, j_in, j_is), x, y) ↦ absurd (let no : length none ≡ 0 = ap length is_none in omega (arith, no, j_in))
    | inr (e, there) ↦ (e, subst (λ rs. Contains rs r) same there)
  ],
  λ (e, there). (made r k).1 ((added r k).1 (inr (e, subst (λ rs. Contains rs r) (sym same) there))),
)

pub set-squares : (set : List Rect) (items : List Item) → AreSetItems set items → SameSquares (Covers (rects_of items)) (Covers set)
set-squares set items are p = (
  λ (i, r, i_in, i_is, has). (let (k, item) = rect-item items r (i, i_in, i_is) in let (e, (j, j_in, j_is)) = (are r k).0 item in (j, r, j_in, j_is, has)),
  λ (i, r, i_in, i_is, has). (let (j, j_in, j_is) = item-rect items r 0 ((are r 0).1 (refl, (i, i_in, i_is))) in (j, r, j_in, j_is, has)),
)

pub set-solid : (set : List Rect) (items : List Item) → AreSetItems set items → All IsSolid set → All IsSolid (rects_of items)
set-solid set items are solid = All-weaker (Contains (rects_of items)) IsSolid
    (λ r c. let (k, item) = rect-item items r c in All-contains IsSolid set r solid ((are r k).0 item).1)
    (rects_of items) (All-contains_itself (rects_of items))

-- the greater of two numbers
greater : (a b c d : ℤ) → a <ℤ c → b <ℤ c → a <ℤ d → b <ℤ d → (x : ℤ) × (a ≤ℤ x) × (b ≤ℤ x) × (x <ℤ c) × (x <ℤ d)
greater a b c d ac bc ad bd = by_lt_z a b
    (λ l. (b, omega (arith, ints, l), omega (arith, ints), bc, bd))
    (λ l. (a, omega (arith, ints), l, ac, ad))

-- solid rectangles that don't lie apart have a common square
common : (w r : Rect) → IsSolid w → IsSolid r → (LiesApart w r → ⊥) → (p : Pt) × Has w p × Has r p
common w r solid own h =
    let a = by_lt_z w.x0 r.x1 (λ l. l) (λ l. absurd (h (inl l))) in
    let b = by_lt_z r.x0 w.x1 (λ l. l) (λ l. absurd (h (inr (inl l)))) in
    let c = by_lt_z w.y0 r.y1 (λ l. l) (λ l. absurd (h (inr (inr (inl l))))) in
    let d = by_lt_z r.y0 w.y1 (λ l. l) (λ l. absurd (h (inr (inr (inr l))))) in
    let (x, x0, x1, x2, x3) = greater w.x0 r.x0 w.x1 r.x1 solid.wide b a own.wide in
    let (y, y0, y1, y2, y3) = greater w.y0 r.y0 w.y1 r.y1 solid.tall d c own.tall in
    (at x y, record { left = x0; right = x2; low = y0; high = y2 }, record { left = x1; right = x3; low = y1; high = y3 })

apart-none : (w r : Rect) (p : Pt) → Has w p → Has r p → LiesApart w r → ⊥
apart-none w r p a b (inl h) = let c = a.left in let d = b.right in omega (arith, ints, h, c, d)
apart-none w r p a b (inr (inl h)) = let c = a.right in let d = b.left in omega (arith, ints, h, c, d)
apart-none w r p a b (inr (inr (inl h))) = let c = a.low in let d = b.high in omega (arith, ints, h, c, d)
apart-none w r p a b (inr (inr (inr h))) = let c = a.high in let d = b.low in omega (arith, ints, h, c, d)

module _ (items : List Item) (w : Rect) (n : ℕ) (solid : IsSolid w) (own : All IsSolid (rects_of items)) where
  pub meeting-found : (d : Item) → n < length items → ¬ IsMissed w Everyone (get_or items n d) → (p : Pt) × Has w p × Covers (rects_of items) p
  meeting-found d l found =
      let item = get_or items n d in
      let there : Contains items item = Contains-get_or items n d l in
      let (k, k_in, k_is) = item-rect items item.rect item.owner (item, there, refl, refl) in
      let (p, mine, theirs) = common w item.rect solid (All-contains IsSolid (rects_of items) item.rect own (k, k_in, k_is)) (λ h. found (inl h)) in
      (p, mine, (k, item.rect, k_in, k_is, theirs))

  pub found-meeting : ArePassed w Everyone items 0 n → (p : Pt) → Has w p → Covers (rects_of items) p → n < length items
  found-meeting passed p mine (k, r, k_in, k_is, theirs) = elim (cases_lt n (length items)) [
    | inl l ↦ l
    | inr l ↦ absurd (let (owner, (item, (j, j_in, j_is), is, e)) = rect-item items r (k, k_in, k_is) in
        elim (subst (λ u. IsMissed w Everyone u) j_is (passed j item (omega arith) (omega (arith, l, j_in)) j_in)) [
          | inl h ↦ apart-none w r p mine theirs (subst (λ u. LiesApart w u) is h)
          | inr none ↦ none
        ])
  ]
