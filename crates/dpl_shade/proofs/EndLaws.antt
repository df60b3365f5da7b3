-- What lies on an item of the same owner, and how its ends are marked.
use Rattle.std.proofs.Common.{
  ◌≡◌,
  ◌≢◌,
  ℕ,
  zero,
  suc,
  ◌+◌,
  ◌-◌,
  ◌<◌,
  ◌≤◌,
  ◌⊎◌,
  inl,
  inr,
  Bool,
  true,
  false,
  List,
  ◌++◌,
  length,
  get_or,
  take,
  drop,
  replicate,
  append-nil,
  sym,
  refl,
  ap,
  ◌∙◌,
  subst,
  arith,
}
use Rattle.std.specs.Prelude.{ℤ, pos, ◌-ℤ◌, ◌≤ℤ◌, ◌<ℤ◌, ◌↔◌, IsTrue, int_lt, int_le, ◌&&◌}
use Rattle.std.specs.List.{Contains}
use Rattle.std.specs.List.Sorted.{IsPartitionedBy}
use Rattle.std.proofs.lemmas.Bool.{and_from, and_parts, cases_Bool, cases_eq, cases_lt, cases_order, or_cases, or_left, or_right, false≢true}
use Rattle.std.proofs.lemmas.Int.{ints, by_lt_z}
use Rattle.std.proofs.lemmas.List.{drop_all, get_or_default, get_or-drop, get_or-take, length-drop, length-replicate, length-take, take_all}
use Rattle.dpl_spec_split.specs.declared.Rect.{Rect}
use Rattle.dpl_spec_split.specs.Loops.{farthest}
use Rattle.dpl_spec_split.specs.Slabs.{Follows, StandApart}
use Rattle.dpl_spec_split.specs.Squares.{Has, IsSolidWithin}
use Rattle.dpl_spec_split.specs.Zones.{at}
use Rattle.dpl_join.specs.declared.items.Item.{Item}
use Rattle.dpl_join.specs.Pairs.{item_at, no_item}
use Rattle.dpl_shade.specs.declared.ends.Ends.{Ends}
use Rattle.dpl_shade.specs.Ends.{AreEnds, AreMarkedFrom, AreMarkedIfLive, AreSound, HasLive, IsFirstOn, IsMarked, IsMore, IsOn, IsPart, Meet, comes_before, ends_at, no_ends}
use Rattle.dpl_shade.specs.Items.{own_in, AreInOrder, AreOwnedWithin, IsOwned, OwnersRise}
use Rattle.dpl_shade.specs.Rows.{GoesAbove, GoesBelow}
use Rattle.dpl_shade.proofs.ItemLaws.{in-own, own-in, owned-at, owned-within}

-- ---- tests of coordinates

lt-yes : (a b : ℤ) → int_lt a b ≡ true → a <ℤ b
lt-yes a b h = grind (arith, ints)

le-yes : (a b : ℤ) → int_le a b ≡ true → a ≤ℤ b
le-yes a b h = grind (arith, ints)

yes-lt : (a b : ℤ) → a <ℤ b → int_lt a b ≡ true
yes-lt a b h = grind (arith, ints)

yes-le : (a b : ℤ) → a ≤ℤ b → int_le a b ≡ true
yes-le a b h = grind (arith, ints)

lt-no : (a b : ℤ) → int_lt a b ≡ false → b ≤ℤ a
lt-no a b h = grind (arith, ints)

le-no : (a b : ℤ) → int_le a b ≡ false → b <ℤ a
le-no a b h = grind (arith, ints)

-- the rectangle begins below the slab's end, or at it and left of the slab
abbrev ComesBefore : Rect → Rect → Type 0
ComesBefore s r = (r.y0 <ℤ s.y1) ⊎ ((r.y0 ≤ℤ s.y1) × (r.x1 <ℤ s.x0))

comes-yes : (s r : Rect) → comes_before s r ≡ true → ComesBefore s r
comes-yes s r h = elim (or_cases (int_lt r.y0 s.y1) (int_le r.y0 s.y1 && int_lt r.x1 s.x0) h) [
  | inl a ↦ inl (lt-yes r.y0 s.y1 a)
  | inr b ↦ (let (row, left) = and_parts (int_le r.y0 s.y1) (int_lt r.x1 s.x0) b in inr (le-yes r.y0 s.y1 row, lt-yes r.x1 s.x0 left))
]

yes-comes : (s r : Rect) → ComesBefore s r → comes_before s r ≡ true
yes-comes s r (inl a) = or_left (int_lt r.y0 s.y1) (int_le r.y0 s.y1 && int_lt r.x1 s.x0) (yes-lt r.y0 s.y1 a)
yes-comes s r (inr (row, left)) = or_right (int_lt r.y0 s.y1) (int_le r.y0 s.y1 && int_lt r.x1 s.x0) (and_from (int_le r.y0 s.y1) (int_lt r.x1 s.x0) (yes-le r.y0 s.y1 row) (yes-lt r.x1 s.x0 left))

comes-no : (s r : Rect) → comes_before s r ≡ false → ComesBefore s r → ⊥
comes-no s r fails comes = false≢true (sym fails ∙ yes-comes s r comes)

-- ---- rectangles that follow one another

-- what comes before a later one comes before the slab
earlier-comes : (s a b : Rect) → IsSolidWithin farthest a → IsSolidWithin farthest b → Follows a b → ComesBefore s b → ComesBefore s a
earlier-comes s a b a_solid b_solid f comes =
    let at_once : a.y0 ≡ b.y0 → a.x0 <ℤ b.x0 → a.x1 <ℤ b.x0 = λ row left. (
    let a_tall = a_solid.tall in
    let b_tall = b_solid.tall in
    let b_wide = b_solid.wide in
    elim (f.apart (omega (arith, ints, row, b_tall), omega (arith, ints, row, a_tall))) [ inl l ↦ l | inr l ↦ absurd (omega (arith, ints, l, left, b_wide)) ]) in
    let b_wide = b_solid.wide in
    elim f.before [
      | inl lower ↦ elim comes [ inl l ↦ inl (omega (arith, ints, lower, l)) | inr (l, left) ↦ inl (omega (arith, ints, lower, l)) ]
      | inr (row, before) ↦ elim comes [
        | inl l ↦ inl (omega (arith, ints, row, l))
        | inr (l, left) ↦ (let m = at_once row before in inr (omega (arith, ints, row, l), omega (arith, ints, m, b_wide, left)))
      ]
    ]

-- of rectangles in order, behind one that neither comes before the slab nor meets it none meets it
later-none : (s a b : Rect) → Follows a b → (ComesBefore s a → ⊥) → (Meet s a → ⊥) → Meet s b → ⊥
later-none s a b f never none m =
    let row = m.row in
    let left = m.left in
    elim f.before [
      | inl lower ↦ never (inl (omega (arith, ints, row, lower)))
      | inr (same, before) ↦ none (record {
        row = omega (arith, ints, same, row);
        left = omega (arith, ints, before, left);
        right = by_lt_z a.x1 s.x0 (λ l. absurd (never (inr (omega (arith, ints, same, row), l)))) (λ l. l);
      })
    ]

-- what comes before the slab doesn't meet it
before-none : (s r : Rect) → ComesBefore s r → Meet s r → ⊥
before-none s r (inl l) m = let row = m.row in omega (arith, ints, row, l)
before-none s r (inr (l, left)) m = let right = m.right in omega (arith, ints, right, left)

-- a column of the slab, or one beside it, at which the rectangle has the row
shared : (s r : Rect) (y : ℤ) → IsSolidWithin farthest s → IsSolidWithin farthest r → s.x0 ≤ℤ r.x1 → r.x0 ≤ℤ s.x1
    → r.y0 ≤ℤ y → y <ℤ r.y1 → (x : ℤ) × ((s.x0 -ℤ pos 1) ≤ℤ x) × (x ≤ℤ s.x1) × Has r (at x y)
shared s r y solid within a b c d =
    let wide = solid.wide in
    let own = within.wide in
    by_lt_z r.x0 (s.x0 -ℤ pos 1)
    (λ l. (s.x0 -ℤ pos 1, omega (arith, ints), omega (arith, ints, wide), record { left = omega (arith, ints, l); right = omega (arith, ints, a); low = c; high = d }))
    (λ l. (r.x0, l, b, record { left = omega (arith, ints); right = own; low = c; high = d }))

-- ---- items in order

module _ (items : List Item) (order : AreInOrder items) (within : AreOwnedWithin items) where
  solid-at : (n : ℕ) → n < length items → IsSolidWithin farthest (item_at items n).rect
  solid-at n n_in = owned-within items n no_item within n_in

  follows : (i j : ℕ) → i < j → j < length items → (item_at items i).owner ≡ (item_at items j).owner → Follows (item_at items i).rect (item_at items j).rect
  follows i j l j_in own = order i j no_item l j_in own

  -- what lies on an item comes later
  pub on-later : (n k : ℕ) → IsOn items n k → n < k
  on-later n k on =
      let tall = (solid-at n on.under).tall in
      let row = on.meet.row in
      elim (cases_order n k) [
        | inl e ↦ absurd (let same = ap (λ (i : ℕ). (item_at items i).rect.y0) e in omega (arith, ints, tall, row, same))
        | inr o ↦ elim o [
          | inl l ↦ l
          | inr l ↦ absurd (elim (follows k n l on.under on.own).before [
            | inl lower ↦ omega (arith, ints, lower, tall, row)
            | inr (same, left) ↦ omega (arith, ints, same, tall, row)
          ])
        ]
      ]

  -- two items of an owner that share a row stand apart
  stand-apart : (n m : ℕ) → n < length items → m < length items → (item_at items n).owner ≡ (item_at items m).owner → n ≢ m
      → (item_at items n).rect.y0 <ℤ (item_at items m).rect.y1 → (item_at items m).rect.y0 <ℤ (item_at items n).rect.y1 → StandApart (item_at items n).rect (item_at items m).rect
  stand-apart n m n_in m_in own ne a b = elim (cases_order n m) [
    | inl e ↦ absurd (ne e)
    | inr o ↦ elim o [
      | inl l ↦ (follows n m l m_in own).apart (a, b)
      | inr l ↦ elim ((follows m n l n_in (sym own)).apart (b, a)) [ inl h ↦ inr h | inr h ↦ inl h ]
    ]
  ]

  -- an owner's rectangle is an item's
  owner-item : (own : ℕ) (r : Rect) → Contains (own_in items own) r → (m : ℕ) × (m < length items) × ((item_at items m).owner ≡ own) × ((item_at items m).rect ≡ r)
  owner-item own r c =
      let (t, (m, m_in, is), e, f) = own-in items own r c in
      let here : item_at items m ≡ t = get_or_default items m no_item t m_in ∙ is in
      (m, m_in, ap (λ (u : Item). u.owner) here ∙ f, ap (λ (u : Item). u.rect) here ∙ e)

  above-on : (n : ℕ) → n < length items → GoesAbove (own_in items (item_at items n).owner) (item_at items n).rect → (k : ℕ) × IsOn items n k
  above-on n n_in (v, a, b, (i, r, i_in, is, has_r)) =
      let (m, m_in, own, r_is) = owner-item (item_at items n).owner r (i, i_in, is) in
      let has : Has (item_at items m).rect (at v (item_at items n).rect.y1) = subst (λ (t : Rect). Has t (at v (item_at items n).rect.y1)) (sym r_is) has_r in
      let left = has.left in
      let right = has.right in
      let low = has.low in
      let high = has.high in
      let tall = (solid-at n n_in).tall in
      let ne : n ≢ m = λ e. (let top = ap (λ (j : ℕ). (item_at items j).rect.y1) e in omega (arith, ints, top, high)) in
      let row : (item_at items n).rect.y1 ≤ℤ (item_at items m).rect.y0 = by_lt_z (item_at items m).rect.y0 (item_at items n).rect.y1
      (λ l. absurd (elim (stand-apart n m n_in m_in (sym own) ne (omega (arith, ints, tall, high)) l) [ inl h ↦ omega (arith, ints, h, b, left) | inr h ↦ omega (arith, ints, h, a, right) ]))
      (λ l. l) in (
        m,
        record {
          under = n_in;
          over = m_in;
          own = own;
          meet = record { row = omega (arith, ints, row, low); left = omega (arith, ints, b, left); right = omega (arith, ints, a, right) };
        },
      )

  below-on : (n : ℕ) → n < length items → GoesBelow (own_in items (item_at items n).owner) (item_at items n).rect → (k : ℕ) × IsOn items k n
  below-on n n_in (v, a, b, (i, r, i_in, is, has_r)) =
      let (m, m_in, own, r_is) = owner-item (item_at items n).owner r (i, i_in, is) in
      let has : Has (item_at items m).rect (at v ((item_at items n).rect.y0 -ℤ pos 1)) = subst (λ (t : Rect). Has t (at v ((item_at items n).rect.y0 -ℤ pos 1))) (sym r_is) has_r in
      let left = has.left in
      let right = has.right in
      let low = has.low in
      let high = has.high in
      let tall = (solid-at n n_in).tall in
      let ne : n ≢ m = λ e. (let bottom = ap (λ (j : ℕ). (item_at items j).rect.y0) e in omega (arith, ints, bottom, low)) in
      let row : (item_at items m).rect.y1 ≤ℤ (item_at items n).rect.y0 = by_lt_z (item_at items n).rect.y0 (item_at items m).rect.y1
      (λ l. absurd (elim (stand-apart n m n_in m_in (sym own) ne l (omega (arith, ints, tall, low))) [ inl h ↦ omega (arith, ints, h, b, left) | inr h ↦ omega (arith, ints, h, a, right) ]))
      (λ l. l) in (
        m,
        record {
          under = m_in;
          over = n_in;
          own = sym own;
          meet = record { row = omega (arith, ints, row, high); left = omega (arith, ints, a, right); right = omega (arith, ints, b, left) };
        },
      )

  owned-by : (n k : ℕ) → k < length items → (item_at items k).owner ≡ (item_at items n).owner → Contains (own_in items (item_at items n).owner) (item_at items k).rect
  owned-by n k k_in own = in-own items (item_at items n).owner (item_at items k).rect (subst (IsOwned items (item_at items k).rect) own (owned-at items k no_item k_in))

  on-above : (n k : ℕ) → IsOn items n k → GoesAbove (own_in items (item_at items n).owner) (item_at items n).rect
  on-above n k on =
      let (i, i_in, is) = owned-by n k on.over on.own in
      let tall = (solid-at k on.over).tall in
      let row = on.meet.row in
      let (x, a, b, has) = shared (item_at items n).rect (item_at items k).rect (item_at items n).rect.y1 (solid-at n on.under) (solid-at k on.over) on.meet.right on.meet.left
      (omega (arith, ints, row)) (omega (arith, ints, row, tall)) in
      (x, a, b, (i, (item_at items k).rect, i_in, is, has))

  on-below : (n k : ℕ) → IsOn items k n → GoesBelow (own_in items (item_at items n).owner) (item_at items n).rect
  on-below n k on =
      let (i, i_in, is) = owned-by n k on.under (sym on.own) in
      let tall = (solid-at k on.under).tall in
      let row = on.meet.row in
      let (x, a, b, has) = shared (item_at items n).rect (item_at items k).rect ((item_at items n).rect.y0 -ℤ pos 1) (solid-at n on.over) (solid-at k on.under) on.meet.left on.meet.right
      (omega (arith, ints, row, tall)) (omega (arith, ints, row)) in
      (x, a, b, (i, (item_at items k).rect, i_in, is, has))

  -- ---- the items behind one, in a part

  module _ (n end : ℕ) (part : IsPart items n end) where
    abbrev pub behind : List Item
    behind = take (end - (n + 1)) (drop (n + 1) items)

    pub behind-size : length behind ≡ end - (n + 1)
    behind-size =
        let inside = part.within in
        let t = length-take (end - (n + 1)) (drop (n + 1) items) in
        let d = length-drop (n + 1) items in
        omega (arith, t, d, inside)

    pub behind-at : (k : ℕ) (d : Item) → k < length behind → get_or behind k d ≡ item_at items (n + 1 + k)
    behind-at k d k_in =
        let l : k < end - (n + 1) = subst (λ (m : ℕ). k < m) behind-size k_in in
        let inside = part.within in
        get_or-take (end - (n + 1)) (drop (n + 1) items) k d l ∙ (get_or-drop (n + 1) items k d ∙ get_or_default items (n + 1 + k) d no_item (omega (arith, l, inside)))

    part-follows : (i j : ℕ) → n ≤ i → i < j → j < end → Follows (item_at items i).rect (item_at items j).rect
    part-follows i j from l below = let inside = part.within in follows i j l (omega (arith, below, inside))
        (part.own i from (omega (arith, l, below)) ∙ sym (part.own j (omega (arith, from, l)) below))

    pub behind-parted : IsPartitionedBy (λ (t : Item). comes_before (item_at items n).rect t.rect) behind
    behind-parted i j d le j_in h =
        let size = behind-size in
        let inside = part.within in
        let i_is : get_or behind i d ≡ item_at items (n + 1 + i) = behind-at i d (omega (arith, le, j_in)) in
        let j_is : get_or behind j d ≡ item_at items (n + 1 + j) = behind-at j d j_in in
        elim (cases_eq i j) [
          | inl e ↦ subst (λ (m : ℕ). comes_before (item_at items n).rect (get_or behind m d).rect ≡ true) (sym e) h
          | inr ne ↦
              (let j_comes : ComesBefore (item_at items n).rect (item_at items (n + 1 + j)).rect =
              comes-yes (item_at items n).rect (item_at items (n + 1 + j)).rect (subst (λ (t : Item). comes_before (item_at items n).rect t.rect ≡ true) j_is h) in
              subst (λ (t : Item). comes_before (item_at items n).rect t.rect ≡ true) (sym i_is) (yes-comes (item_at items n).rect (item_at items (n + 1 + i)).rect
              (earlier-comes (item_at items n).rect (item_at items (n + 1 + i)).rect (item_at items (n + 1 + j)).rect
              (solid-at (n + 1 + i) (omega (arith, le, ne, j_in, size, inside))) (solid-at (n + 1 + j) (omega (arith, j_in, size, inside)))
              (part-follows (n + 1 + i) (n + 1 + j) (omega arith) (omega (arith, le, ne)) (omega (arith, j_in, size))) j_comes)))
        ]

    -- what a later item of the part comes before, an earlier one does
    comes-earlier : (i j : ℕ) → n < i → i ≤ j → j < end → comes_before (item_at items n).rect (item_at items j).rect ≡ true
        → comes_before (item_at items n).rect (item_at items i).rect ≡ true
    comes-earlier i j from le below h = elim (cases_eq i j) [
      | inl e ↦ subst (λ (m : ℕ). comes_before (item_at items n).rect (item_at items m).rect ≡ true) (sym e) h
      | inr ne ↦
          (let inside = part.within in
          yes-comes (item_at items n).rect (item_at items i).rect (earlier-comes (item_at items n).rect (item_at items i).rect (item_at items j).rect
          (solid-at i (omega (arith, le, below, inside))) (solid-at j (omega (arith, below, inside))) (part-follows i j (omega (arith, from)) (omega (arith, le, ne)) below)
          (comes-yes (item_at items n).rect (item_at items j).rect h)))
    ]

    -- the first item that doesn't come before the end, next to one that does
    pub first-next : (k : ℕ) → n < k → k < end → comes_before (item_at items n).rect (item_at items (k - 1)).rect ≡ true
        → comes_before (item_at items n).rect (item_at items k).rect ≡ false → IsFirstOn items n end k
    first-next k from below last here = record {
      behind = from;
      within = omega (arith, below);
      before = λ j l m. comes-earlier j (k - 1) l (omega (arith, l, m)) (omega (arith, from, below)) last;
      after = λ j l m. elim (cases_Bool (comes_before (item_at items n).rect (item_at items j).rect)) [
        | inl comes ↦ absurd (false≢true (sym here ∙ comes-earlier k j from l m comes))
        | inr stays ↦ stays
      ];
    }

    -- the first item that doesn't come before the end, found among the items behind
    pub first-from : (at_behind : ℕ) → at_behind ≤ length behind → ((k : ℕ) (d : Item) → 0 ≤ k → k < at_behind → comes_before (item_at items n).rect (get_or behind k d).rect ≡ true)
        → ((k : ℕ) (d : Item) → at_behind ≤ k → k < length behind → comes_before (item_at items n).rect (get_or behind k d).rect ≡ false) → IsFirstOn items n end (n + 1 + at_behind)
    first-from at_behind bound before after =
        let size = behind-size in
        let some = part.some in
        let moved : (k : ℕ) → n < k → k < end → (v : Bool) → comes_before (item_at items n).rect (get_or behind (k - (n + 1)) no_item).rect ≡ v
        → comes_before (item_at items n).rect (item_at items k).rect ≡ v =
        λ k l m v h.
        (let is : get_or behind (k - (n + 1)) no_item ≡ item_at items k =
        behind-at (k - (n + 1)) no_item (omega (arith, l, m, size)) ∙ ap (λ (j : ℕ). item_at items j) (let e : n + 1 + (k - (n + 1)) ≡ k = omega (arith, l) in e) in
        subst (λ (t : Item). comes_before (item_at items n).rect t.rect ≡ v) is h) in
        record {
          behind = omega arith;
          within = omega (arith, bound, size, some);
          before = λ k l m. (let inside : k < end = omega (arith, m, bound, size, some) in
              moved k l inside true (before (k - (n + 1)) no_item (omega arith) (omega (arith, l, m))));
          after = λ k l m. moved k (omega (arith, l)) m false (after (k - (n + 1)) no_item (omega (arith, l)) (omega (arith, l, m, size)));
        }

    -- what lies on the item is among them
    on-behind : OwnersRise items → (k : ℕ) → IsOn items n k → k < end
    on-behind rise k on = elim (cases_lt k end) [
      | inl l ↦ l
      | inr l ↦ absurd
          (let inside : end < length items = omega (arith, l, on.over) in
          let some = part.some in
          let a = rise n end no_item (omega (arith, some)) inside in
          let b = rise end k no_item l on.over in
          let own = on.own in
          part.other inside (omega (arith, a, b, own)))
    ]

    module _ (rise : OwnersRise items) (first : ℕ) (is_first : IsFirstOn items n end first) where
      -- it isn't before the first one
      on-from : (k : ℕ) → IsOn items n k → first ≤ k
      on-from k on = elim (cases_lt k first) [
        | inl l ↦ absurd (before-none (item_at items n).rect (item_at items k).rect
            (comes-yes (item_at items n).rect (item_at items k).rect (is_first.before k (on-later n k on) l)) on.meet)
        | inr l ↦ l
      ]

      -- none lies behind one that doesn't
      on-until : (m k : ℕ) → first ≤ m → m < end → (Meet (item_at items n).rect (item_at items m).rect → ⊥) → IsOn items n k → k < m
      on-until m k from below none on = elim (cases_order k m) [
        | inl e ↦ absurd (none (subst (λ (j : ℕ). Meet (item_at items n).rect (item_at items j).rect) e on.meet))
        | inr o ↦ elim o [
          | inl l ↦ l
          | inr l ↦ absurd
              (let after_n = is_first.behind in
              later-none (item_at items n).rect (item_at items m).rect (item_at items k).rect (part-follows m k (omega (arith, after_n, from)) l (on-behind rise k on))
              (comes-no (item_at items n).rect (item_at items m).rect (is_first.after m from below)) none on.meet)
        ]
      ]

-- ---- marks

pub more-same : (a : List Ends) → IsMore a a
more-same a = record { above = λ n h. h; below = λ n h. h }

pub more-both : (a b c : List Ends) → IsMore a b → IsMore b c → IsMore a c
more-both a b c f g = record { above = λ n h. g.above n (f.above n h); below = λ n h. g.below n (f.below n h) }

pub marked-more : (a b : List Ends) (n k : ℕ) → IsMore a b → IsMarked a n k → IsMarked b n k
marked-more a b n k more (above, below) = (more.above n above, more.below k below)

-- that item k lies on item n is marked
pub record IsMarkedAt (old new : List Ends) (n k : ℕ) : Type 0 where
  pub sized : length new ≡ length old
  pub above : (m : ℕ) → IsTrue (ends_at new m).above ↔ (IsTrue (ends_at old m).above ⊎ (m ≡ n))
  pub below : (m : ℕ) → IsTrue (ends_at new m).below ↔ (IsTrue (ends_at old m).below ⊎ (m ≡ k))

module _ (items : List Item) (old new : List Ends) (n k : ℕ) (at_pair : IsMarkedAt old new n k) where
  pub mark-more : IsMore old new
  mark-more = record { above = λ m h. (at_pair.above m).1 (inl h); below = λ m h. (at_pair.below m).1 (inl h) }

  pub mark-done : IsMarked new n k
  mark-done = ((at_pair.above n).1 (inr refl), (at_pair.below k).1 (inr refl))

  pub mark-sound : IsOn items n k → AreSound items old → AreSound items new
  mark-sound on sound = record {
    sized = at_pair.sized ∙ sound.sized;
    above = λ m h. elim ((at_pair.above m).0 h) [ inl a ↦ sound.above m a | inr e ↦ (k, subst (λ (j : ℕ). IsOn items j k) (sym e) on) ];
    below = λ m h. elim ((at_pair.below m).0 h) [ inl b ↦ sound.below m b | inr e ↦ (n, subst (λ (j : ℕ). IsOn items n j) (sym e) on) ];
  }

-- the items before number k that lie on item n are marked
pub record IsMarkedTo (items : List Item) (n k : ℕ) (old new : List Ends) : Type 0 where
  pub sound : AreSound items new
  pub more : IsMore old new
  pub all : (j : ℕ) → IsOn items n j → j < k → IsMarked new n j

module _ (items : List Item) (order : AreInOrder items) (within : AreOwnedWithin items) (rise : OwnersRise items) (n end first : ℕ) (part : IsPart items n end)
    (is_first : IsFirstOn items n end first) (old : List Ends) where
  pub marked-start : AreSound items old → IsMarkedTo items n first old old
  marked-start sound = record {
    sound = sound;
    more = more-same old;
    all = λ j on l. absurd (let from = on-from items order within n end part rise first is_first j on in omega (arith, l, from));
  }

  pub marked-next : (k : ℕ) (so_far new : List Ends) → first ≤ k → k < end → Meet (item_at items n).rect (item_at items k).rect → IsMarkedTo items n k old so_far → IsMarkedAt so_far new n k
      → IsMarkedTo items n (k + 1) old new
  marked-next k so_far new from below meets h at_pair =
      let inside = part.within in
      let some = part.some in
      let after_n = is_first.behind in
      let on : IsOn items n k = record {
        under = omega (arith, inside, some);
        over = omega (arith, below, inside);
        own = part.own k (omega (arith, after_n, from)) below;
        meet = meets;
      } in
      let more = mark-more items so_far new n k at_pair in
      record {
        sound = mark-sound items so_far new n k at_pair on h.sound;
        more = more-both old so_far new h.more more;
        all = λ j on_j l. elim (cases_eq j k) [
          | inl e ↦ subst (λ (i : ℕ). IsMarked new n i) (sym e) (mark-done items so_far new n k at_pair)
          | inr ne ↦ marked-more so_far new n j more (h.all j on_j (omega (arith, l, ne)))
        ];
      }

  pub marked-until : (k : ℕ) (new : List Ends) → first ≤ k → k < end → (Meet (item_at items n).rect (item_at items k).rect → ⊥) → IsMarkedTo items n k old new → (j : ℕ) → IsOn items n j
      → IsMarked new n j
  marked-until k new from below none h j on = h.all j on (on-until items order within n end part rise first is_first k j from below none on)

  pub marked-all : (k : ℕ) (new : List Ends) → end ≤ k → IsMarkedTo items n k old new → (j : ℕ) → IsOn items n j → IsMarked new n j
  marked-all k new past h j on = h.all j on (let l = on-behind items order within n end part rise j on in omega (arith, l, past))

-- ---- the items of a part

-- the rest of a part is a part
pub part-from : (items : List Item) (start end n : ℕ) → IsPart items start end → start ≤ n → n < end → IsPart items n end
part-from items start end n part from below =
    let same = part.own n from below in
    record {
      some = below;
      within = part.within;
      own = λ k a b. part.own k (omega (arith, a, from)) b ∙ sym same;
      other = λ inside e. part.other inside (e ∙ same);
    }

-- what lies on the items from number start up to but not n is marked
pub record ArePartMarked (items : List Item) (start n : ℕ) (old new : List Ends) : Type 0 where
  pub sound : AreSound items new
  pub more : IsMore old new
  pub all : AreMarkedFrom items start n new

pub part-none : (items : List Item) (start : ℕ) (old : List Ends) → AreSound items old → ArePartMarked items start start old old
part-none items start old sound = record { sound = sound; more = more-same old; all = λ n k a b. absurd (omega (arith, a, b)) }

pub part-more : (items : List Item) (start n : ℕ) (old so_far new : List Ends) → ArePartMarked items start n old so_far → AreSound items new → IsMore so_far new
    → ((k : ℕ) → IsOn items n k → IsMarked new n k) → ArePartMarked items start (n + 1) old new
part-more items start n old so_far new h sound more all =
    record {
      sound = sound;
      more = more-both old so_far new h.more more;
      all = λ m k a b on. elim (cases_eq m n) [
        | inl e ↦ subst (λ (i : ℕ). IsMarked new i k) (sym e) (all k (subst (λ (i : ℕ). IsOn items i k) e on))
        | inr ne ↦ marked-more so_far new m k more (h.all m k a (omega (arith, b, ne)) on)
      ];
    }

pub part-all : (items : List Item) (start end n : ℕ) (old new : List Ends) → end ≤ n → ArePartMarked items start n old new → AreMarkedFrom items start end new
part-all items start end n old new past h m k a b on = h.all m k a (omega (arith, b, past)) on

-- the items up to number k are the owner's
pub record IsPartTo (items : List Item) (start k : ℕ) : Type 0 where
  pub own : (j : ℕ) → start ≤ j → j < k → (item_at items j).owner ≡ (item_at items start).owner

pub to-start : (items : List Item) (start : ℕ) → IsPartTo items start (start + 1)
to-start items start = record { own = λ j a b. (let e : j ≡ start = omega (arith, a, b) in ap (λ (i : ℕ). (item_at items i).owner) e) }

pub to-more : (items : List Item) (start k : ℕ) → IsPartTo items start k → (item_at items k).owner ≡ (item_at items start).owner → IsPartTo items start (k + 1)
to-more items start k h same = record { own = λ j a b. elim (cases_eq j k) [ inl e ↦ ap (λ (i : ℕ). (item_at items i).owner) e ∙ same | inr ne ↦ h.own j a (omega (arith, b, ne)) ] }

pub part-here : (items : List Item) (start k : ℕ) → IsPartTo items start k → start < k → k ≤ length items → (k < length items → (item_at items k).owner ≢ (item_at items start).owner)
    → IsPart items start k
part-here items start k h some inside other = record { some = some; within = inside; own = h.own; other = other }

pub part-last : (items : List Item) (start k : ℕ) → IsPartTo items start k → start < length items → length items ≤ k → IsPart items start (length items)
part-last items start k h some past =
    record { some = some; within = omega arith; own = λ j a b. h.own j a (omega (arith, b, past)); other = λ inside. absurd (omega (arith, inside)) }

-- ---- parts without a live item

-- where no item of a part is live, none lies on one of it with one of the two live
pub none-live : (items : List Item) (dead : List Bool) (start end : ℕ) (ends : List Ends) → AreInOrder items → AreOwnedWithin items → OwnersRise items → IsPart items start end
    → (HasLive dead start end → ⊥) → AreMarkedIfLive items dead start end ends
none-live items dead start end ends order within rise part none n k a b on live =
    let rest = part-from items start end n part a b in
    let l = on-later items order within n k on in
    let m = on-behind items order within n end rest rise k on in
    absurd (elim live [ inl h ↦ none (n, a, b, h) | inr h ↦ none (k, omega (arith, a, l), m, h) ])

pub live-marked : (items : List Item) (dead : List Bool) (start end : ℕ) (ends : List Ends) → AreMarkedFrom items start end ends → AreMarkedIfLive items dead start end ends
live-marked items dead start end ends all n k a b on live = all n k a b on

-- ---- all parts

pub record AreDone (items : List Item) (dead : List Bool) (start : ℕ) (ends : List Ends) : Type 0 where
  pub within : start ≤ length items
  pub sound : AreSound items ends
  pub all : AreMarkedIfLive items dead 0 start ends

replicated : (n k : ℕ) → get_or (replicate n no_ends) k no_ends ≡ no_ends
replicated zero k = refl
replicated (suc n) zero = refl
replicated (suc n) (suc k) = replicated n k

pub done-none : (items : List Item) (dead : List Bool) (ends : List Ends) → ends ≡ replicate (length items) no_ends → AreDone items dead 0 ends
done-none items dead ends is = rw is (record {
  within = omega arith;
  sound = record {
    sized = length-replicate (length items) no_ends;
    above = λ n h. absurd (false≢true (sym (ap (λ (e : Ends). e.above) (replicated (length items) n)) ∙ h));
    below = λ n h. absurd (false≢true (sym (ap (λ (e : Ends). e.below) (replicated (length items) n)) ∙ h));
  };
  all = λ n k a b. absurd (omega (arith, b));
})

pub done-more : (items : List Item) (dead : List Bool) (start end : ℕ) (old new : List Ends) → end ≤ length items → AreDone items dead start old → AreSound items new → IsMore old new
    → AreMarkedIfLive items dead start end new → AreDone items dead end new
done-more items dead start end old new inside h sound more all =
    record {
      within = inside;
      sound = sound;
      all = λ n k a b on live. elim (cases_lt n start) [ inl l ↦ marked-more old new n k more (h.all n k a l on live) | inr l ↦ all n k l b on live ];
    }

pub done-all : (items : List Item) (dead : List Bool) (start : ℕ) (ends : List Ends) → AreInOrder items → AreOwnedWithin items → length items ≤ start → AreDone items dead start ends
    → AreEnds items dead ends
done-all items dead start ends order within past h =
    record {
      sized = h.sound.sized;
      each = λ n n_in live. record {
        below = (
          λ b. (let (k, on) = h.sound.below n b in on-below items order within n k on),
          λ g. (let (k, on) = below-on items order within n n_in g in (h.all k n (omega arith) (let l = on.under in omega (arith, l, past)) on (inr live)).1),
        );
        above = (
          λ b. (let (k, on) = h.sound.above n b in on-above items order within n k on),
          λ g. (let (k, on) = above-on items order within n n_in g in (h.all n k (omega arith) (omega (arith, n_in, past)) on (inl live)).0),
        );
      };
    }

-- a list that is written back over one as long
pub restored : (old new : List Ends) (len : ℕ) → len ≡ length old → length new ≡ length old → take len (new ++ drop (length new) old) ≡ new
restored old new len counted same =
    ap (λ (t : List Ends). take len (new ++ t)) (drop_all (length new) old (omega (arith, same)))
    ∙ (ap (λ (t : List Ends). take len t) (append-nil new) ∙ take_all len new (omega (arith, counted, same)))
