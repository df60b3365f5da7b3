-- What a search of a tree by a window finds.
use Rattle.std.proofs.Common.{◌≡◌, ℕ, ◌<◌, inl, inr, List, length, get_or, subst, arith}
use Rattle.std.specs.Prelude.{ℤ, pos, ◌+ℤ◌, ◌-ℤ◌, ◌≤ℤ◌, ◌<ℤ◌}
use Rattle.std.proofs.lemmas.Int.{ints, by_lt_z}
use Rattle.std.proofs.lemmas.Bool.{cases_lt, cases_eq}
use Rattle.dpl_spec_split.specs.declared.Rect.{Rect}
use Rattle.dpl_spec_split.specs.Loops.{farthest}
use Rattle.dpl_spec_split.specs.Squares.{Has, AreTouching, IsSolidWithin}
use Rattle.dpl_spec_split.specs.Zones.{at}
use Rattle.dpl_spec_split.proofs.SquareLaws.{Touch-from_close}
use Rattle.dpl_spec_split.proofs.ZoneLaws.{close-from_touch}
use Rattle.dpl_tree.specs.declared.items.Item.{Item}
use Rattle.dpl_tree.specs.declared.owners.Owners.{Owners}
use Rattle.dpl_tree.specs.declared.owners.Owners.TheVariants.{Only}
use Rattle.dpl_tree.specs.Trees.{HasItem, LiesApart, IsMissed, ArePassed}
use Rattle.dpl_tree.specs.Windows.{IsWidened}
use Rattle.dpl_zone.specs.Layers.{AreItemsWithin}
use Rattle.dpl_tree.proofs.ItemLaws.{item-at}

abbrev pub zero_item : Item
zero_item = record { rect = record { x0 = pos 0; y0 = pos 0; x1 = pos 0; y1 = pos 0 }; owner = 0 }

-- an item is a solid rectangle in the range
item-within : (items : List Item) (i : ℕ) (d : Item) → AreItemsWithin items → i < length items → IsSolidWithin farthest (get_or items i d).rect
item-within items i d within i_in = within (get_or items i d).rect (get_or items i d).owner (item-at items i d i_in)

record Overlaps (w r : Rect) : Type 0 where
  left : w.x0 <ℤ r.x1
  right : r.x0 <ℤ w.x1
  low : w.y0 <ℤ r.y1
  high : r.y0 <ℤ w.y1

overlap : (w r : Rect) → (LiesApart w r → ⊥) → Overlaps w r
overlap w r h =
    record {
      left = by_lt_z w.x0 r.x1 (λ l. l) (λ l. absurd (h (inl l)));
      right = by_lt_z r.x0 w.x1 (λ l. l) (λ l. absurd (h (inr (inl l))));
      low = by_lt_z w.y0 r.y1 (λ l. l) (λ l. absurd (h (inr (inr (inl l)))));
      high = by_lt_z r.y0 w.y1 (λ l. l) (λ l. absurd (h (inr (inr (inr l)))));
    }

not_apart : (w r : Rect) → Overlaps w r → LiesApart w r → ⊥
not_apart w r o (inl h) = let a = o.left in omega (arith, ints, h, a)
not_apart w r o (inr (inl h)) = let a = o.right in omega (arith, ints, h, a)
not_apart w r o (inr (inr (inl h))) = let a = o.low in omega (arith, ints, h, a)
not_apart w r o (inr (inr (inr h))) = let a = o.high in omega (arith, ints, h, a)

-- what a search comes to
pub record IsSought (items : List Item) (window : Rect) (owners : Owners) (n : ℕ) : Type 0 where
  pub passed : ArePassed window owners items 0 n
  pub found : (d : Item) → n < length items → ¬ IsMissed window owners (get_or items n d)

module _ (items : List Item) (window : Rect) (owners : Owners) (n : ℕ) (sought : IsSought items window owners n) where
  -- a rectangle that isn't missed is found, or another one
  item_found : (r : Rect) (k : ℕ) → HasItem items r k → ((item : Item) → item.rect ≡ r → item.owner ≡ k → ¬ IsMissed window owners item) → n < length items
  item_found r k (item, (j, j_in, is), e, f) never = elim (cases_lt n (length items)) [
    | inl l ↦ l
    | inr l ↦ absurd (never item e f (subst (λ u. IsMissed window owners u) is (sought.passed j item (omega arith) (omega (arith, l, j_in)) j_in)))
  ]

  found_overlap : (d : Item) → n < length items → Overlaps window (get_or items n d).rect
  found_overlap d l = overlap window (get_or items n d).rect (λ h. sought.found d l (inl h))

-- a row, or a column, of one span and one of the other at most one apart
record AreClosePair (a0 a1 b0 b1 : ℤ) : Type 0 where
  i : ℤ
  j : ℤ
  i_from : a0 ≤ℤ i
  i_below : i <ℤ a1
  j_from : b0 ≤ℤ j
  j_below : j <ℤ b1
  up : j ≤ℤ (i +ℤ pos 1)
  down : i ≤ℤ (j +ℤ pos 1)

close_pair : (a0 a1 b0 b1 : ℤ) → a0 <ℤ a1 → b0 <ℤ b1 → a0 ≤ℤ b1 → b0 ≤ℤ a1 → AreClosePair a0 a1 b0 b1
close_pair a0 a1 b0 b1 a b c d =
    by_lt_z a0 b0
    (λ l. record {
      i = b0 -ℤ pos 1;
      j = b0;
      i_from = omega (arith, ints, l);
      i_below = omega (arith, ints, d);
      j_from = omega
          (arith, ints);
      j_below = b;
      up = omega (arith, ints);
      down = omega (arith, ints);
    })
    (λ l. by_lt_z a0 b1
    (λ m. record { i = a0; j = a0; i_from = omega (arith, ints); i_below = a; j_from = l; j_below = m; up = omega (arith, ints); down = omega (arith, ints) })
    (λ m. record {
      i = a0;
      j = b1 -ℤ pos 1;
      i_from = omega (arith, ints);
      i_below = a;
      j_from = omega (arith, ints, b);
      j_below = omega
          (arith, ints);
      up = omega (arith, ints, m);
      down = omega (arith, ints, c, m);
    }))

module _ (items : List Item) (own : ℕ) (z : Rect) (window : Rect) (n : ℕ) (within : AreItemsWithin items) (solid : IsSolidWithin farthest z)
    (wide : IsWidened z 1 window) (sought : IsSought items window (Only own) n) where
  pub touch-found : (d : Item) → n < length items → (h : Rect) × HasItem items h own × AreTouching (Has h) (Has z)
  touch-found d l =
      let owner : (get_or items n d).owner ≡ own = elim (cases_eq (get_or items n d).owner own) [ inl e ↦ e | inr ne ↦ absurd (sought.found d l (inr ne)) ] in
      let o = found_overlap items window (Only own) n sought d l in
      let r = item-within items n d within l in
      let e0 = wide.left in
      let e1 = wide.right in
      let e2 = wide.low in
      let e3 = wide.high in
      let o0 = o.left in
      let o1 = o.right in
      let o2 = o.low in
      let o3 = o.high in
      let p = close_pair (get_or items n d).rect.x0 (get_or items n d).rect.x1 z.x0 z.x1 r.wide solid.wide (omega (arith, ints, e1, o1)) (omega (arith, ints, e0, o0)) in
      let q = close_pair (get_or items n d).rect.y0 (get_or items n d).rect.y1 z.y0 z.y1 r.tall solid.tall (omega (arith, ints, e3, o3)) (omega (arith, ints, e2, o2)) in (
        (get_or items n d).rect,
        subst (λ k. HasItem items (get_or items n d).rect k) owner (item-at items n d l),
        (
          at p.i q.i,
          at p.j q.j,
          record { left = p.i_from; right = p.i_below; low = q.i_from; high = q.i_below },
          record { left = p.j_from; right = p.j_below; low = q.j_from; high = q.j_below },
          Touch-from_close (at p.i q.i) (at p.j q.j) p.up p.down q.up q.down,
        ),
      )

  pub found-touch : (h : Rect) → HasItem items h own → AreTouching (Has h) (Has z) → n < length items
  found-touch h has (p, q, hp, hq, touch) =
      let c = close-from_touch p q touch in
      let e0 = wide.left in
      let e1 = wide.right in
      let e2 = wide.low in
      let e3 = wide.high in
      let o : Overlaps window h = record {
        left = omega (arith, ints, e0, hq.left, c.left, hp.right);
        right = omega (arith, ints, e1, hq.right, c.right, hp.left);
        low = omega (arith, ints, e2, hq.low, c.low, hp.high);
        high = omega (arith, ints, e3, hq.high, c.high, hp.low);
      } in
      item_found items window (Only own) n sought h own has (λ item e f missed. elim missed [
        | inl a ↦ not_apart window h o (subst (λ t. LiesApart window t) e a)
        | inr a ↦ a f
      ])
