-- What a search through pieces finds.
use Rattle.std.proofs.Common.{◌≡◌, ◌∙◌, ◌+◌, ◌<◌, ◌≤◌, ℕ, ◌⊎◌, inl, inr, List, [], ◌∷◌, ◌++◌, length, get_or, subst, sym, refl, ap, arith}
use Rattle.std.specs.Prelude.{◌↔◌, ℤ, pos, ◌≤ℤ◌, ◌<ℤ◌}
use Rattle.std.specs.List.{Contains}
use Rattle.std.proofs.lemmas.Int.{ints, by_lt_z}
use Rattle.std.proofs.lemmas.Bool.{cases_lt, cases_order}
use Rattle.std.proofs.lemmas.List.{get_or_default}
use Rattle.std.proofs.lemmas.List.Elements.{Contains-append_left, Contains-push, Contains-push_cases}
use Rattle.dpl_spec_split.specs.declared.Pt.{Pt}
use Rattle.dpl_spec_split.specs.declared.Rect.{Rect}
use Rattle.dpl_spec_split.specs.Squares.{Covers, Has}
use Rattle.dpl_spec_split.specs.Slabs.{AreSlabsOf, IsSolid}
use Rattle.dpl_spec_split.specs.Loops.{farthest, AreRectsWithin}
use Rattle.dpl_spec_split.specs.Zones.{part_at}
use Rattle.dpl_slabs.specs.Parts.{AreParts, union_of}
use Rattle.dpl_tree.specs.declared.items.Item.{Item}
use Rattle.dpl_tree.specs.declared.owners.Owners.TheVariants.{All as Everyone}
use Rattle.dpl_tree.specs.Trees.{AreItemsOf, ArePassed, HasItem, IsMissed, LiesApart}
use Rattle.dpl_session.specs.Tiles.{IsOccupied}
use Rattle.dpl_edges.specs.InCells.{in_cell}
use Rattle.dpl_edges.specs.Meetings.{IsWhole}
use Rattle.dpl_session.proofs.Alone.{alone_only, only_alone}
use Rattle.dpl_session.specs.Windows.{within}

pub no_item : Item
no_item = record { rect = record { x0 = pos 0; y0 = pos 0; x1 = pos 0; y1 = pos 0 }; owner = 0 }

-- the greater of two numbers
greater : (a b c d : ℤ) → a <ℤ c → b <ℤ c → a <ℤ d → b <ℤ d → (x : ℤ) × (a ≤ℤ x) × (b ≤ℤ x) × (x <ℤ c) × (x <ℤ d)
greater a b c d ac bc ad bd = by_lt_z a b
    (λ l. (b, omega (arith, ints, l), omega (arith, ints), bc, bd))
    (λ l. (a, omega (arith, ints), l, ac, ad))

-- solid rectangles that don't lie apart have a common square
common : (w r : Rect) → IsSolid w → IsSolid r → (LiesApart w r → ⊥) → (p : Pt) × Has w p × Has r p
common w r solid own h =
    let a = by_lt_z w.x0 r.x1 (λ l. l) (λ l. absurd (h (inl l))) in
    let b = by_lt_z r.x0 w.x1 (λ l. l) (λ l. absurd (h (inr (inl l)))) in
    let c = by_lt_z w.y0 r.y1 (λ l. l) (λ l. absurd (h (inr (inr (inl l))))) in
    let d = by_lt_z r.y0 w.y1 (λ l. l) (λ l. absurd (h (inr (inr (inr l))))) in
    let (x, x0, x1, x2, x3) = greater w.x0 r.x0 w.x1 r.x1 solid.wide b a own.wide in
    let (y, y0, y1, y2, y3) = greater w.y0 r.y0 w.y1 r.y1 solid.tall d c own.tall in
    (record { x = x; y = y }, record { left = x0; right = x2; low = y0; high = y2 }, record { left = x1; right = x3; low = y1; high = y3 })

-- what was found before item n: slabs of pieces, among them each with a square in the window
pub record AreFoundTo (w : Rect) (items : List Item) (found : List Rect) (n : ℕ) : Type 0 where
  pub some : (r : Rect) → Contains found r → (k : ℕ) × HasItem items r k
  pub all : (j : ℕ) (d : Item) → j < n → j < length items → IsMissed w Everyone (get_or items j d) ⊎ Contains found (get_or items j d).rect

no_rect : (r : Rect) → Contains [] r → ⊥
no_rect r (k, l, is) = omega (arith, l)

pub found_first : (w : Rect) (items : List Item) (n : ℕ) → ArePassed w Everyone items 0 n → AreFoundTo w items [] n
found_first w items n passed = record { some = λ r c. absurd (no_rect r c); all = λ j d l j_in. inl (passed j d (omega arith) l j_in) }

pub found_more : (w : Rect) (items : List Item) (found : List Rect) (n m : ℕ) (item : Item) → n < length items → ((d : Item) → item ≡ get_or items n d) → AreFoundTo w items found n
    → ArePassed w Everyone items (n + 1) m → AreFoundTo w items (found ++ item.rect ∷ []) m
found_more w items found n m item n_in is before passed = record {
  some = λ r c. elim (Contains-push_cases found item.rect r c) [
    | inl old ↦ before.some r old
    | inr same ↦ (item.owner, (item, (n, n_in, sym (is item)), same, refl))
  ];
  all = λ j d l j_in. elim (cases_order j n) [
    | inl e ↦ inr (subst (λ (t : Item). Contains (found ++ item.rect ∷ []) t.rect) (is d ∙ ap (λ i. get_or items i d) (sym e)) (Contains-push found item.rect))
    | inr other ↦ elim other [
      | inl less ↦ elim (before.all j d less j_in) [ inl missed ↦ inl missed | inr c ↦ inr (Contains-append_left found (item.rect ∷ []) _ c) ]
      | inr more ↦ inl (passed j d (omega (arith, more)) l j_in)
    ]
  ];
}

-- what has a square of both isn't missed
not_missed : (w : Rect) (item : Item) (p : Pt) → Has w p → Has item.rect p → IsMissed w Everyone item → ⊥
not_missed w item p a b (inr none) = none
not_missed w item p a b (inl (inl h)) = let x = a.left in let y = b.right in omega (arith, ints, x, y, h)
not_missed w item p a b (inl (inr (inl h))) = let x = a.right in let y = b.left in omega (arith, ints, x, y, h)
not_missed w item p a b (inl (inr (inr (inl h)))) = let x = a.low in let y = b.high in omega (arith, ints, x, y, h)
not_missed w item p a b (inl (inr (inr (inr h)))) = let x = a.high in let y = b.low in omega (arith, ints, x, y, h)

-- an item's slab is one of a piece
item_square : (parts : List (List Rect)) (items : List Item) (r : Rect) (k : ℕ) (p : Pt) → AreItemsOf parts items → HasItem items r k → Has r p → (k < length parts) × part_at parts k p
item_square parts items r k p are has p_in = let (k_in, (j, j_in, is)) = (are r k).0 has in (k_in, (j, r, j_in, is, p_in))

part_union : (parts : List (List Rect)) (k : ℕ) (p : Pt) → k < length parts → part_at parts k p → union_of parts p
part_union parts k p k_in h = (k, get_or parts k [], k_in, get_or_default parts k (get_or parts k []) [] k_in, h)

union_part : (parts : List (List Rect)) (p : Pt) → union_of parts p → (k : ℕ) × (k < length parts) × part_at parts k p
union_part parts p (k, part, k_in, is, h) = (k, k_in, subst (λ s. Covers s p) (sym is ∙ get_or_default parts k part [] k_in) h)

-- the item of a square
square_item : (parts : List (List Rect)) (items : List Item) (p : Pt) → AreItemsOf parts items → union_of parts p
    → (j : ℕ) × ((d : Item) → (j < length items) × Has (get_or items j d).rect p)
square_item parts items p are h =
    let (k, k_in, (m, r, m_in, r_is, has)) = union_part parts p h in
    let (item, (j, j_in, is), rect, own) = (are r k).1 (k_in, (m, m_in, r_is)) in
    (j, λ d. (j_in, subst (λ (t : Item). Has t.rect p) (sym is ∙ get_or_default items j item d j_in) (subst (λ s. Has s p) (sym rect) has)))

pub found_squares : (w : Rect) (parts : List (List Rect)) (items : List Item) (found : List Rect) (n : ℕ) → AreItemsOf parts items → AreFoundTo w items found n → length items ≤ n
    → (p : Pt) → within w (Covers found) p ↔ within w (union_of parts) p
found_squares w parts items found n are found_all over p = (
  λ ((i, r, i_in, is, has), inside). (
      let (k, item) = found_all.some r (i, i_in, is) in
      let (k_in, here) = item_square parts items r k p are item has in
      (part_union parts k p k_in here, inside)),
  λ (h, inside). (
      let (j, item) = square_item parts items p are h in
      let d : Item = record { rect = w; owner = 0 } in
      let (j_in, has) = item d in
      elim (found_all.all j d (omega (arith, j_in, over)) j_in) [
        | inl missed ↦ absurd (not_missed w (get_or items j d) p inside has missed)
        | inr (i, i_in, is) ↦ ((i, (get_or items j d).rect, i_in, is, has), inside)
      ]),
)

pub found_within : (w : Rect) (parts : List (List Rect)) (items : List Item) (found : List Rect) (n : ℕ) → AreParts parts → AreItemsOf parts items
    → AreFoundTo w items found n → AreRectsWithin farthest found
found_within w parts items found n parted are found_all r c =
    let (k, item) = found_all.some r c in
    let (k_in, there) = (are r k).0 item in
    parted.within k [] k_in r there

-- the first item that isn't passed, where some square is in the window
pub seek_meets : (w : Rect) (parts : List (List Rect)) (items : List Item) (n : ℕ) → AreItemsOf parts items → ArePassed w Everyone items 0 n
    → IsOccupied (union_of parts) w → n < length items
seek_meets w parts items n are passed (p, h, inside) =
    let (j, item) = square_item parts items p are h in
    let d : Item = record { rect = w; owner = 0 } in
    let (j_in, has) = item d in
    elim (cases_lt j n) [
      | inl l ↦ absurd (not_missed w (get_or items j d) p inside has (passed j d (omega arith) l j_in))
      | inr m ↦ omega (arith, m, j_in)
    ]

-- a found item's piece has a square in the window
pub meets_seek : (w : Rect) (parts : List (List Rect)) (items : List Item) (n : ℕ) (item : Item) → IsSolid w → AreParts parts → AreItemsOf parts items
    → n < length items → item ≡ get_or items n item
    → (IsMissed w Everyone item → ⊥) → (item.owner < length parts) × IsOccupied (part_at parts item.owner) w
meets_seek w parts items n item solid parted are n_in is found =
    let has : HasItem items item.rect item.owner = (item, (n, n_in, sym is), refl, refl) in
    let (k_in, (m, m_in, m_is)) = (are item.rect item.owner).0 has in
    let mine : IsSolid item.rect = subst IsSolid m_is ((parted.canonical item.owner [] k_in).solid m item.rect m_in) in
    let (p, in_w, in_r) = common w item.rect solid mine (λ apart. found (inl apart)) in
    (k_in, (p, (m, item.rect, m_in, m_is, in_r), in_w))

pub in_union : (w : Rect) (parts : List (List Rect)) (k : ℕ) → k < length parts → IsOccupied (part_at parts k) w → IsOccupied (union_of parts) w
in_union w parts k k_in (p, h, inside) = (p, part_union parts k p k_in h, inside)

-- what was found, within what of the window a layer may have
pub framed : (w whole clip : Rect) (parts : List (List Rect)) (found all frame s : List Rect) → AreParts parts → IsWhole whole
    → ((p : Pt) → within w (Covers found) p ↔ within w (union_of parts) p)
    → AreSlabsOf (Covers found) all → frame ≡ clip ∷ [] → ((p : Pt) → Has clip p ↔ in_cell w (Has whole) p) → AreSlabsOf (λ p. Covers all p × Covers frame p) s
    → AreSlabsOf (within w (union_of parts)) s
framed w whole clip parts found all frame s parted everywhere same found_is frame_is clip_is are = record {
  canonical = are.canonical;
  covers = λ p. (
    λ h. (
        let (a, b) = (are.covers p).0 h in
        let (c, in_w) = (clip_is p).0 (alone_only clip p (subst (λ t. Covers t p) frame_is b)) in
        (same p).0 ((found_is.covers p).0 a, in_w)),
    λ (h, in_w). (
        let (c, d) = (same p).1 (h, in_w) in
        let (k, k_in, (m, r, m_in, is, has)) = union_part parts p h in
        let near = parted.within k [] k_in r (m, m_in, is) in
        let x0 = near.left in
        let x1 = near.right in
        let y0 = near.low in
        let y1 = near.high in
        let a0 = has.left in
        let a1 = has.right in
        let b0 = has.low in
        let b1 = has.high in
        let e0 = everywhere.left in
        let e1 = everywhere.right in
        let f0 = everywhere.low in
        let f1 = everywhere.high in
        let there : Has whole p = record {
          left = omega (arith, ints, x0, a0, e0);
          right = omega (arith, ints, x1, a1, e1);
          low = omega (arith, ints, y0, b0, f0);
          high = omega (arith, ints, y1, b1, f1);
        } in
        (are.covers p).1 ((found_is.covers p).1 c, subst (λ t. Covers t p) (sym frame_is) (only_alone clip p ((clip_is p).1 (there, in_w))))),
  );
}
