-- Edges that a cell finds by meetings.
use Rattle.std.proofs.Common.{◌≡◌, ℕ, ◌<◌, ◌⊎◌, inl, inr, List, [], ◌∷◌, ◌++◌, length, get_or, sym, refl, ap, ◌∙◌, subst, arith}
use Rattle.std.specs.Prelude.{◌↔◌, ◌≢◌, slice_index}
use Rattle.std.specs.List.{Contains}
use Rattle.std.proofs.lemmas.List.{get_or_default}
use Rattle.std.proofs.lemmas.List.Elements.{Contains-get_or}
use Rattle.std.proofs.lemmas.Bool.{cases_eq, cases_order}
use Rattle.dpl_spec_split.specs.declared.Spacing.{Spacing}
use Rattle.dpl_spec_split.specs.declared.Pt.{Pt}
use Rattle.dpl_spec_split.specs.declared.Rect.{Rect}
use Rattle.dpl_spec_split.specs.Loops.{farthest}
use Rattle.dpl_spec_split.specs.Squares.{Has, IsSolidWithin, Near, Region}
use Rattle.dpl_spec_split.specs.Zones.{part_at}
use Rattle.dpl_spec_split.proofs.SquareLaws.{AreNear-sym, Near-sym}
use Rattle.dpl_slabs.specs.Parts.{AreParts}
use Rattle.dpl_join.specs.declared.items.Item.{Item}
use Rattle.dpl_join.specs.Pairs.{item_at, no_item}
use Rattle.dpl_tile.specs.declared.meetings.Meeting.{Meeting}
use Rattle.dpl_tile.specs.Adding.{Adds}
use Rattle.dpl_tile.specs.Meetings.{AreItemsOf}
use Rattle.dpl_tile.specs.Plans.{HaveAllNear, Planned}
use Rattle.dpl_tile.proofs.Adding.{added-to_none, adds-same}
use Rattle.dpl_tile.proofs.Loops.{OfSome, adds-push}
use Rattle.dpl_edges.specs.InCells.{in_cell, ConflictIn}
use Rattle.dpl_edges.specs.Meetings.{IsEdgeOf, IsEnds, MeetIn}
use Rattle.dpl_edges.proofs.Windows.{slab-within}

pub one-ends : (i k : ℕ) (e f : ℕ × ℕ) → IsEnds i k e → IsEnds i k f → e ≡ f
one-ends i k e f (inl (l, is)) (inl (m, also)) = is ∙ sym also
one-ends i k e f (inl (l, is)) (inr (m, also)) = absurd (omega (arith, l, m))
one-ends i k e f (inr (l, is)) (inl (m, also)) = absurd (omega (arith, l, m))
one-ends i k e f (inr (l, is)) (inr (m, also)) = is ∙ sym also

-- the edge of two slabs that meet
pub edge-push : (spacing : Spacing) (cell : Rect) (a b : Item) (old new : List (ℕ × ℕ)) (e : ℕ × ℕ) → MeetIn spacing cell a b → IsEnds a.owner b.owner e
    → new ≡ old ++ e ∷ [] → Adds (IsEdgeOf spacing cell a b) old new
edge-push spacing cell a b old new e meet h is = adds-same (λ f. f ≡ e) (IsEdgeOf spacing cell a b) old new
    (λ f. (λ same. (meet, subst (λ u. IsEnds a.owner b.owner u) (sym same) h), λ (m, g). one-ends a.owner b.owner f e g h)) (adds-push old new e is)

-- their edge, where it is there already
pub edge-again : (spacing : Spacing) (cell : Rect) (a b : Item) (old : List (ℕ × ℕ)) (e : ℕ × ℕ) → MeetIn spacing cell a b → IsEnds a.owner b.owner e → Contains old e
    → Adds (IsEdgeOf spacing cell a b) old old
edge-again spacing cell a b old e meet h there f = (λ c. inl c, λ s. elim s [ inl c ↦ c | inr (m, g) ↦ subst (Contains old) (one-ends a.owner b.owner e f h g) there ])

-- the edge of a meeting
abbrev pub IsMeetingEdge : Planned → Rect → Meeting → ℕ × ℕ → Type 0
IsMeetingEdge plan cell m e = IsEdgeOf plan.spacing cell (item_at plan.items m.first) (item_at plan.items m.second) e

conflict-flip : (spacing : Spacing) (parts : List (List Rect)) (owners : List ℕ) (cell : Rect) (i j : ℕ) → ConflictIn spacing parts owners cell i j → ConflictIn spacing parts owners cell j i
conflict-flip spacing parts owners cell i j c = record {
  first = c.second;
  second = c.first;
  apart = λ e. c.apart (sym e);
  near = elim c.near [
    | inl n ↦ inr (AreNear-sym spacing (in_cell cell (part_at parts i)) (part_at parts j) n)
    | inr n ↦ inl (AreNear-sym spacing (part_at parts i) (in_cell cell (part_at parts j)) n)
  ];
}

-- a meeting is of two of the items
pub first-known : (plan : Planned) (a : Region) (ms : List Meeting) (k : ℕ) (d : Meeting) → HaveAllNear plan a ms → k < length ms → (get_or ms k d).first < length plan.items
first-known plan a ms k d near k_in =
    let apart = near.apart (get_or ms k d) (Contains-get_or ms k d k_in) in
    let order = apart.order in
    let known = apart.known in
    omega (arith, order, known)

pub second-known : (plan : Planned) (a : Region) (ms : List Meeting) (k : ℕ) (d : Meeting) → HaveAllNear plan a ms → k < length ms → (get_or ms k d).second < length plan.items
second-known plan a ms k d near k_in = (near.apart (get_or ms k d) (Contains-get_or ms k d k_in)).known

pub item-solid : (plan : Planned) (n : ℕ) → AreItemsOf plan.parts plan.items → AreParts plan.parts → n < length plan.items → IsSolidWithin farthest (item_at plan.items n).rect
item-solid plan n are parts n_in =
    let item = item_at plan.items n in
    let (k_in, c) = (are item).0 (Contains-get_or plan.items n no_item n_in) in
    slab-within plan.parts item.owner item.rect parts k_in c

module _ (plan : Planned) (cell : Rect) (ms : List Meeting) (are : AreItemsOf plan.parts plan.items) (near : HaveAllNear plan (Has cell) ms) where
  -- the slabs of an item are squares of its piece
  item-squares : (n : ℕ) (p : Pt) → n < length plan.items → Has (item_at plan.items n).rect p → part_at plan.parts (item_at plan.items n).owner p
  item-squares n p n_in h =
      let item = item_at plan.items n in
      let (k_in, (j, j_in, is)) = (are item).0 (Contains-get_or plan.items n no_item n_in) in
      (j, item.rect, j_in, is, h)

  item-known : (n : ℕ) → n < length plan.items → (item_at plan.items n).owner < length plan.parts
  item-known n n_in = ((are (item_at plan.items n)).0 (Contains-get_or plan.items n no_item n_in)).0

  -- two meeting slabs are a conflict
  meet-conflict : (i j : ℕ) → i < length plan.items → j < length plan.items → slice_index plan.owners (item_at plan.items i).owner ≢ slice_index plan.owners (item_at plan.items j).owner
      → MeetIn plan.spacing cell (item_at plan.items i) (item_at plan.items j) → ConflictIn plan.spacing plan.parts plan.owners cell (item_at plan.items i).owner (item_at plan.items j).owner
  meet-conflict i j i_in j_in apart (inl (p, q, (a, in_cell), b, close)) = record {
    first = item-known i i_in;
    second = item-known j j_in;
    apart = apart;
    near = inl (p, q, (item-squares i p i_in a, in_cell), item-squares j q j_in b, close);
  }
  meet-conflict i j i_in j_in apart (inr (p, q, (a, in_cell), b, close)) = record {
    first = item-known i i_in;
    second = item-known j j_in;
    apart = apart;
    near = inr (q, p, item-squares i q i_in b, (item-squares j p j_in a, in_cell), Near-sym plan.spacing p q close);
  }

  edge-conflict : (e : ℕ × ℕ) → OfSome (IsMeetingEdge plan cell) ms e → (e.0 < e.1) × ConflictIn plan.spacing plan.parts plan.owners cell e.0 e.1
  edge-conflict e (m, m_in, (meet, is)) =
      let apart = near.apart m m_in in
      let order = apart.order in
      let known = apart.known in
      let i = (item_at plan.items m.first).owner in
      let k = (item_at plan.items m.second).owner in
      let c = meet-conflict m.first m.second (omega (arith, order, known)) known apart.owners meet in
      elim is [
        | inl (l, same) ↦ subst (λ f. let g : ℕ × ℕ = f in (g.0 < g.1) × ConflictIn plan.spacing plan.parts plan.owners cell g.0 g.1) (sym same) (l, c)
        | inr (l, same) ↦
            let far : k < i = elim (cases_eq k i) [ inl eq ↦ absurd (apart.owners (ap (slice_index plan.owners) (sym eq))) | inr ne ↦ omega (arith, l, ne) ] in
            subst (λ f. let g : ℕ × ℕ = f in (g.0 < g.1) × ConflictIn plan.spacing plan.parts plan.owners cell g.0 g.1) (sym same) (far, conflict-flip plan.spacing plan.parts plan.owners cell i k c)
      ]

  -- the item of a slab
  slab-item : (k : ℕ) (r : Rect) → k < length plan.parts → Contains (get_or plan.parts k []) r → (n : ℕ) × (n < length plan.items) × (item_at plan.items n ≡ record { rect = r; owner = k })
  slab-item k r k_in r_in =
      let item : Item = record { rect = r; owner = k } in
      let (n, n_in, is) = (are item).1 (k_in, r_in) in
      (n, n_in, get_or_default plan.items n no_item item n_in ∙ is)

  -- near squares of two pieces, one of them in the cell, are found
  found : (e : ℕ × ℕ) (p q : Pt) → e.0 < e.1 → e.0 < length plan.parts → e.1 < length plan.parts → slice_index plan.owners e.0 ≢ slice_index plan.owners e.1
      → part_at plan.parts e.0 p → part_at plan.parts e.1 q → Near plan.spacing p q → Has cell p ⊎ Has cell q → OfSome (IsMeetingEdge plan cell) ms e
  found e p q l first second apart (s, r, s_in, r_is, a) (t, u, t_in, u_is, b) close here =
      let (i, i_in, i_is) = slab-item e.0 r first (s, s_in, r_is) in
      let (j, j_in, j_is) = slab-item e.1 u second (t, t_in, u_is) in
      let has_p : Has (item_at plan.items i).rect p = subst (λ (x : Item). Has x.rect p) (sym i_is) a in
      let has_q : Has (item_at plan.items j).rect q = subst (λ (x : Item). Has x.rect q) (sym j_is) b in
      let i_own : (item_at plan.items i).owner ≡ e.0 = ap (λ (x : Item). x.owner) i_is in
      let j_own : (item_at plan.items j).owner ≡ e.1 = ap (λ (x : Item). x.owner) j_is in
      let differ : slice_index plan.owners (item_at plan.items i).owner ≢ slice_index plan.owners (item_at plan.items j).owner =
      λ same. apart (sym (ap (slice_index plan.owners) i_own) ∙ (same ∙ ap (slice_index plan.owners) j_own)) in
      let meet : MeetIn plan.spacing cell (item_at plan.items i) (item_at plan.items j) = elim here [
        | inl h ↦ inl (p, q, (has_p, h), has_q, close)
        | inr h ↦ inr (q, p, (has_q, h), has_p, Near-sym plan.spacing p q close)
      ] in
      elim (cases_order i j) [
        | inl same ↦ absurd (differ (ap (λ n. slice_index plan.owners (item_at plan.items n).owner) same))
        | inr o ↦ elim o [
          | inl m ↦
              let (met, met_in, f, g) = near.all i j p q (record { order = m; known = j_in; owners = differ }) has_p has_q close here in (
                met,
                met_in,
                subst (λ n. IsEdgeOf plan.spacing cell (item_at plan.items n) (item_at plan.items met.second) e) (sym f)
                    (subst (λ n. IsEdgeOf plan.spacing cell (item_at plan.items i) (item_at plan.items n) e) (sym g) (meet, rw (i_own, j_own) (inl (l, refl)))),
              )
          | inr m ↦
              let swapped : Has cell q ⊎ Has cell p = elim here [ inl h ↦ inr h | inr h ↦ inl h ] in
              let back : MeetIn plan.spacing cell (item_at plan.items j) (item_at plan.items i) = elim meet [ inl h ↦ inr h | inr h ↦ inl h ] in
              let (met, met_in, f, g) = near.all j i q p (record { order = m; known = i_in; owners = λ same. differ (sym same) }) has_q has_p (Near-sym plan.spacing p q close) swapped in (
                met,
                met_in,
                subst (λ n. IsEdgeOf plan.spacing cell (item_at plan.items n) (item_at plan.items met.second) e) (sym f)
                    (subst (λ n. IsEdgeOf plan.spacing cell (item_at plan.items j) (item_at plan.items n) e) (sym g) (back, rw (i_own, j_own) (inr (omega (arith, l), refl)))),
              )
        ]
      ]

  conflict-edge : (e : ℕ × ℕ) → e.0 < e.1 → ConflictIn plan.spacing plan.parts plan.owners cell e.0 e.1 → OfSome (IsMeetingEdge plan cell) ms e
  conflict-edge e l c = elim c.near [
    | inl (p, q, (a, h), b, close) ↦ found e p q l c.first c.second c.apart a b close (inl h)
    | inr (p, q, a, (b, h), close) ↦ found e p q l c.first c.second c.apart a b close (inr h)
  ]

  -- the meetings find the conflicts
  pub meeting-edges : (none found : List (ℕ × ℕ)) → none ≡ [] → Adds (OfSome (IsMeetingEdge plan cell) ms) none found
      → (e : ℕ × ℕ) → Contains found e ↔ ((e.0 < e.1) × ConflictIn plan.spacing plan.parts plan.owners cell e.0 e.1)
  meeting-edges none found is adds e =
      let h = added-to_none (OfSome (IsMeetingEdge plan cell) ms) none found is adds e in
      (λ c. edge-conflict e (h.0 c), λ (l, c). h.1 (conflict-edge e l c))
