-- What a search finds near the slabs of a piece.
use Rattle.std.proofs.Common.{◌≡◌, ◌∙◌, ℕ, ◌+◌, ◌<◌, ◌≤◌, inl, inr, List, [], length, get_or, refl, sym, ap, subst, arith}
use Rattle.std.specs.Prelude.{◌↔◌, slice_index}
use Rattle.std.specs.List.{All, Contains}
use Rattle.std.proofs.lemmas.Int.{ints}
use Rattle.std.proofs.lemmas.List.{get_or_default}
use Rattle.std.proofs.lemmas.List.Elements.{Contains-get_or}
use Rattle.dpl_spec_split.specs.declared.Rect.{Rect}
use Rattle.dpl_spec_split.specs.declared.Spacing.{Spacing}
use Rattle.dpl_spec_split.specs.Pieces.{Conflict}
use Rattle.dpl_spec_split.specs.Squares.{AreNear, Has}
use Rattle.dpl_spec_split.specs.Zones.{part_at}
use Rattle.dpl_spec_split.proofs.SquareLaws.{AreNear-sym}
use Rattle.dpl_slabs.specs.Parts.{AreParts}
use Rattle.dpl_tree.specs.declared.items.Item.{Item}
use Rattle.dpl_tree.specs.declared.owners.Owners.TheVariants.{But}
use Rattle.dpl_tree.specs.Trees.{AreItemsOf, ArePassed, HasItem, LiesApart}
use Rattle.dpl_tree.specs.Windows.{IsWidened}
use Rattle.dpl_join.proofs.NearLaws.{near-close}
use Rattle.dpl_tile.specs.Adding.{Adds}
use Rattle.dpl_tile.proofs.Adding.{OfFirst, added-to_none, adds-next, adds-none, adds-same}
use Rattle.dpl_tile.proofs.Loops.{Nth, OfSome}
use Rattle.dpl_edges.proofs.Windows.{slab-within}
use Rattle.dpl_stars.proofs.Walks.{IsUndirected}
use Rattle.dpl_crowd.specs.Crowds.{AreKnown, Crowded, IsFoeAmong, IsFoeOwner, graph_in}

-- what has no square in a window that is wider by the rule isn't near
apart_far : (spacing : Spacing) (r window s : Rect) → spacing.corner ≤ spacing.rule → IsWidened r spacing.rule window → LiesApart window s → AreNear spacing (Has r) (Has s) → ⊥
apart_far spacing r window s less wide (inl h) near = let w = wide.left in let c = (near-close spacing r s less near).left in omega (arith, ints, w, h, c)
apart_far spacing r window s less wide (inr (inl h)) near = let w = wide.right in let c = (near-close spacing r s less near).right in omega (arith, ints, w, h, c)
apart_far spacing r window s less wide (inr (inr (inl h))) near = let w = wide.low in let c = (near-close spacing r s less near).low in omega (arith, ints, w, h, c)
apart_far spacing r window s less wide (inr (inr (inr h))) near = let w = wide.high in let c = (near-close spacing r s less near).high in omega (arith, ints, w, h, c)

-- the owner of the item at a place, if that is a foe
abbrev pub IsFoeAt : Spacing → List ℕ → ℕ → Rect → List Item → ℕ → ℕ → Type 0
IsFoeAt spacing owners k r items n w = Nth (IsFoeOwner spacing owners k r) items n w

module _ (spacing : Spacing) (owners : List ℕ) (k : ℕ) (r : Rect) (items : List Item) where
  passed_none : (window : Rect) (from n m w : ℕ) → spacing.corner ≤ spacing.rule → IsWidened r spacing.rule window → ArePassed window (But k) items from n
      → from ≤ m → m < n → IsFoeAt spacing owners k r items m w → ⊥
  passed_none window from n m w less wide passed low high (item, m_in, is, (foe, own)) = elim (passed m item low high m_in) [
    | inl apart ↦ apart_far spacing r window item.rect less wide (subst (λ (t : Item). LiesApart window t.rect) is apart) foe.near
    | inr out ↦ foe.apart (sym (ap (slice_index owners) (subst (λ (t : Item). t.owner ≡ k) is out)))
  ]

  pub foes-start : (window : Rect) (n : ℕ) (found : List ℕ) → spacing.corner ≤ spacing.rule → IsWidened r spacing.rule window → ArePassed window (But k) items 0 n
      → Adds (OfFirst (IsFoeAt spacing owners k r items) n) found found
  foes-start window n found less wide passed = adds-none (IsFoeAt spacing owners k r items) n found (λ m w l h. passed_none window 0 n m w less wide passed (omega arith) l h)

  here : (n : ℕ) (item : Item) → n < length items → item ≡ get_or items n item → (w : ℕ) → IsFoeOwner spacing owners k r item w ↔ IsFoeAt spacing owners k r items n w
  here n item n_in is w = (
    λ h. (item, n_in, sym is, h),
    λ (other, m_in, same, h). subst (λ (t : Item). IsFoeOwner spacing owners k r t w) (sym same ∙ (get_or_default items n other item n_in ∙ sym is)) h,
  )

  pub foes-more : (window : Rect) (n next : ℕ) (item : Item) (base old new : List ℕ) → spacing.corner ≤ spacing.rule → IsWidened r spacing.rule window → n < length items
      → item ≡ get_or items n item → n + 1 ≤ next → ArePassed window (But k) items (n + 1) next → Adds (OfFirst (IsFoeAt spacing owners k r items) n) base old
      → Adds (IsFoeOwner spacing owners k r item) old new → Adds (OfFirst (IsFoeAt spacing owners k r items) next) base new
  foes-more window n next item base old new less wide n_in is on passed before step =
      adds-next (IsFoeAt spacing owners k r items) n next base old new (omega (arith, on)) (λ m w low high h. passed_none window (n + 1) next m w less wide passed low high h) before
      (adds-same (IsFoeOwner spacing owners k r item) (IsFoeAt spacing owners k r items n) old new (here n item n_in is) step)

  all_foes : (n : ℕ) → length items ≤ n → (w : ℕ) → OfFirst (IsFoeAt spacing owners k r items) n w ↔ IsFoeAmong spacing owners k r items w
  all_foes n all w = (
    λ (m, l, (item, m_in, is, (foe, own))). (
      item.rect,
      (item, (m, m_in, is), refl, sym own),
      record { apart = λ e. foe.apart (e ∙ ap (slice_index owners) own); near = foe.near },
    ),
    λ (s, (item, (m, m_in, is), rect, own), foe). (
      m,
      omega (arith, all, m_in),
      (
        item,
        m_in,
        is,
        (
          record { apart = λ e. foe.apart (e ∙ ap (slice_index owners) own); near = subst (λ (u : Rect). AreNear spacing (Has r) (Has u)) (sym rect) foe.near },
          sym own,
        ),
      ),
    ),
  )

  pub foes-all : (n : ℕ) (old new : List ℕ) → length items ≤ n → Adds (OfFirst (IsFoeAt spacing owners k r items) n) old new → Adds (IsFoeAmong spacing owners k r items) old new
  foes-all n old new all h = adds-same (OfFirst (IsFoeAt spacing owners k r items) n) (IsFoeAmong spacing owners k r items) old new (all_foes n all) h

-- the item at a number
pub item-there : (items : List Item) (n : ℕ) (item : Item) → n < length items → item ≡ get_or items n item → HasItem items item.rect item.owner
item-there items n item n_in is = (item, (n, n_in, sym is), refl, refl)

-- the items of parts are known
pub items-known : (parts : List (List Rect)) (owners : List ℕ) (items : List Item) → AreParts parts → AreItemsOf parts items → length owners ≡ length parts → AreKnown owners items
items-known parts owners items parted are many s w has =
    let (w_in, c) = (are s w).0 has in
    (omega (arith, w_in, many), slab-within parts w s parted w_in c)

-- a foe of some slab of a piece is the owner of one in conflict with it
pub foes-conflict : (spacing : Spacing) (parts : List (List Rect)) (owners : List ℕ) (items : List Item) (k w : ℕ) → AreItemsOf parts items → k < length parts
    → OfSome (λ r v. IsFoeAmong spacing owners k r items v) (get_or parts k []) w ↔ Conflict spacing parts owners k w
foes-conflict spacing parts owners items k w are k_in = (
  λ (r, (i, i_in, r_is), (s, has, foe)).
      let (w_in, (j, j_in, s_is)) = (are s w).0 has in
      let (p, q, a, b, near) = foe.near in
      record { first = k_in; second = w_in; apart = foe.apart; near = (p, q, (i, r, i_in, r_is, a), (j, s, j_in, s_is, b), near) },
  λ c.
      let (p, q, (i, r, i_in, r_is, a), (j, s, j_in, s_is, b), near) = c.near in
      (r, (i, i_in, r_is), (s, (are s w).1 (c.second, (j, j_in, s_is)), record { apart = c.apart; near = (p, q, a, b, near) })),
)

pub neighbours-are : (spacing : Spacing) (parts : List (List Rect)) (owners : List ℕ) (items : List Item) (k : ℕ) (none found : List ℕ) → AreItemsOf parts items → k < length parts → none ≡ []
    → Adds (OfSome (λ r v. IsFoeAmong spacing owners k r items v) (get_or parts k [])) none found → (w : ℕ) → Contains found w ↔ Conflict spacing parts owners k w
neighbours-are spacing parts owners items k none found are k_in is adds w =
    let there = added-to_none (OfSome (λ r v. IsFoeAmong spacing owners k r items v) (get_or parts k [])) none found is adds w in
    let same = foes-conflict spacing parts owners items k w are k_in in
    (λ c. same.0 (there.0 c), λ h. there.1 (same.1 h))

-- conflicts go both ways
pub crowd-undirected : (crowd : Crowded) → IsUndirected (graph_in crowd)
crowd-undirected crowd = record {
  both = λ u v c. record {
    first = c.second;
    second = c.first;
    apart = λ e. c.apart (sym e);
    near = AreNear-sym crowd.spacing (part_at crowd.parts u) (part_at crowd.parts v) c.near;
  };
  different = λ u v c e. c.apart (ap (slice_index crowd.owners) e);
}

-- the neighbours of a piece are pieces
pub found-below : (crowd : Crowded) (v n : ℕ) (found : List ℕ) → ((w : ℕ) → Contains found w ↔ graph_in crowd v w) → n ≡ length crowd.parts → All (λ w. w < n) found
found-below crowd v n found same many k d l =
    let second = ((same (get_or found k d)).0 (Contains-get_or found k d l)).second in
    omega (arith, second, many)
