-- Edges of near slabs, and the conflicts of their pieces.
use Rattle.std.proofs.Common.{◌≡◌, ℕ, ◌+◌, ◌%◌, ◌<◌, ◌≤◌, inl, inr, List, [], ◌∷◌, ◌++◌, length, get_or, refl, sym, ap, ◌∙◌, subst, arith}
use Rattle.std.specs.Prelude.{◌↔◌, ◌≢◌, slice_index}
use Rattle.std.specs.List.{All, Contains}
use Rattle.std.specs.List.Sorted.{IsSorted, IsPermutation}
use Rattle.std.specs.List.{dedup}
use Rattle.std.proofs.Math.Nat.{mod-lt, mod-one}
use Rattle.std.proofs.lemmas.Bool.{cases_eq, cases_lt, cases_order}
use Rattle.std.proofs.lemmas.List.{get_or_default}
use Rattle.std.proofs.lemmas.List.Elements.{Contains-append_cases, Contains-append_left, Contains-append_right, Contains-get_or}
use Rattle.dpl_spec_split.specs.declared.Spacing.{Spacing}
use Rattle.dpl_spec_split.specs.declared.Pt.{Pt}
use Rattle.dpl_spec_split.specs.declared.Rect.{Rect}
use Rattle.dpl_spec_split.specs.Graphs.{AreEdges, Precedes}
use Rattle.dpl_spec_split.specs.Loops.{farthest}
use Rattle.dpl_spec_split.specs.Pieces.{Conflict}
use Rattle.dpl_spec_split.specs.Squares.{Has, IsSolidWithin, Near}
use Rattle.dpl_spec_split.specs.Zones.{part_at}
use Rattle.dpl_spec_split.proofs.SquareLaws.{AreNear-sym, Near-sym}
use Rattle.dpl_join.specs.declared.items.Item.{Item}
use Rattle.dpl_join.specs.Joins.{HaveHomes, IsPairOf, Joined, home_of}
use Rattle.dpl_join.specs.Listing.{Lists}
use Rattle.dpl_join.specs.Pairs.{item_at, no_item}
use Rattle.dpl_join.proofs.ListLaws.{all_pairs-append}
use Rattle.dpl_join.proofs.NearLaws.{near-close}
use Rattle.dpl_tile.specs.Adding.{Adds}
use Rattle.dpl_tile.specs.Meetings.{AreFoes}
use Rattle.dpl_tile.proofs.Adding.{OfFirst, added-to_none, adds-next, adds-same}
use Rattle.dpl_tile.proofs.Loops.{OfSome, adds-push}
use Rattle.dpl_tile.proofs.MeetingLaws.{adds-nothing}
use Rattle.dpl_tile.proofs.Orders.{pair_cmp, pair_eq, pairs-members, pairs-ordered}
use Rattle.dpl_edges.specs.Found.{AreSortedBetween, IsBetween, IsDealtEdge, IsFoesEdge, IsFoesEdgeAmong, IsFoundEdge, IsJoinOf}
use Rattle.dpl_edges.specs.Meetings.{IsEnds}
use Rattle.dpl_edges.proofs.Gathering.{one-ends}
use Rattle.dpl_edges.proofs.Windows.{slab-within}

-- ---- the edge of a pair

pub foes-push : (spacing : Spacing) (owners : List ℕ) (items : List Item) (pair : ℕ × ℕ) (old new : List (ℕ × ℕ)) (e : ℕ × ℕ)
    → AreFoes spacing owners (item_at items pair.0) (item_at items pair.1) → IsEnds (item_at items pair.0).owner (item_at items pair.1).owner e
    → new ≡ old ++ e ∷ [] → Adds (IsFoesEdge spacing owners items pair) old new
foes-push spacing owners items pair old new e foes h is = adds-same (λ f. f ≡ e) (IsFoesEdge spacing owners items pair) old new
    (λ f. (
      λ same. (foes, subst (λ u. IsEnds (item_at items pair.0).owner (item_at items pair.1).owner u) (sym same) h),
      λ (m, g). one-ends (item_at items pair.0).owner (item_at items pair.1).owner f e g h,
    ))
    (adds-push old new e is)

pub foes-again : (spacing : Spacing) (owners : List ℕ) (items : List Item) (pair : ℕ × ℕ) (old : List (ℕ × ℕ)) (e : ℕ × ℕ)
    → IsEnds (item_at items pair.0).owner (item_at items pair.1).owner e → Contains old e → Adds (IsFoesEdge spacing owners items pair) old old
foes-again spacing owners items pair old e h there f = (
  λ c. inl c,
  λ s. elim s [ inl c ↦ c | inr (m, g) ↦ subst (Contains old) (one-ends (item_at items pair.0).owner (item_at items pair.1).owner e f h g) there ],
)

-- ---- strips dealt to workers

-- the edge of a pair that counts in strip k, which is dealt to the worker
abbrev pub IsDealtIn : Spacing → List ℕ → Joined → ℕ → ℕ → ℕ → ℕ × ℕ → Type 0
IsDealtIn spacing owners join workers worker k e = (k % workers ≡ worker) × ((pair : ℕ × ℕ) × IsPairOf join k pair × IsFoesEdge spacing owners join.items pair e)

pub strip-known : (join : Joined) (k : ℕ) (pairs : List (ℕ × ℕ)) → Lists (IsPairOf join k) pairs → (p : ℕ × ℕ) → Contains pairs p → (p.0 < length join.items) × (p.1 < length join.items)
strip-known join k pairs lists p c =
    let pair = ((lists.all p).0 c).pair in
    let order = pair.order in
    let known = pair.known in
    (omega (arith, order, known), known)

module _ (spacing : Spacing) (owners : List ℕ) (join : Joined) (workers worker : ℕ) where
  pub dealt-more : (k : ℕ) (pairs base old new : List (ℕ × ℕ)) → k % workers ≡ worker → Lists (IsPairOf join k) pairs
      → Adds (OfFirst (IsDealtIn spacing owners join workers worker) k) base old → Adds (IsFoesEdgeAmong spacing owners join.items pairs) old new
      → Adds (OfFirst (IsDealtIn spacing owners join workers worker) (k + 1)) base new
  dealt-more k pairs base old new dealt lists before step =
      adds-next (IsDealtIn spacing owners join workers worker) k (k + 1) base old new (omega arith) (λ m e a b h. omega (arith, a, b)) before
      (adds-same (IsFoesEdgeAmong spacing owners join.items pairs) (IsDealtIn spacing owners join workers worker k) old new
      (λ e. (
        λ (pair, c, edge). (dealt, (pair, (lists.all pair).0 c, edge)),
        λ (own, (pair, of, edge)). (pair, (lists.all pair).1 of, edge),
      )) step)

  -- a strip that is dealt to another
  pub dealt-past : (k : ℕ) (base old : List (ℕ × ℕ)) → (k % workers ≡ worker → ⊥) → Adds (OfFirst (IsDealtIn spacing owners join workers worker) k) base old
      → Adds (OfFirst (IsDealtIn spacing owners join workers worker) (k + 1)) base old
  dealt-past k base old other before =
      adds-next (IsDealtIn spacing owners join workers worker) k (k + 1) base old old (omega arith) (λ m e a b h. omega (arith, a, b)) before
      (adds-nothing (IsDealtIn spacing owners join workers worker k) old (λ e h. other h.0))

  pub dealt-all : (n : ℕ) (none found : List (ℕ × ℕ)) → HaveHomes join → join.strips ≤ n → none ≡ [] → Adds (OfFirst (IsDealtIn spacing owners join workers worker) n) none found
      → (e : ℕ × ℕ) → Contains found e ↔ IsDealtEdge spacing owners join workers worker e
  dealt-all n none found homes all is adds e =
      let h = added-to_none (OfFirst (IsDealtIn spacing owners join workers worker) n) none found is adds e in (
        λ c. (let (k, l, (dealt, (pair, of, edge))) = h.0 c in (pair, subst (λ i. i % workers ≡ worker) (sym of.here) dealt, of.pair, edge)),
        λ (pair, dealt, p, edge). (let home = homes pair p in
            h.1 (home_of join pair, omega (arith, home, all), (dealt, (pair, record { pair = p; here = refl }, edge)))),
      )

-- each edge is found by some worker
pub edges-of_workers : (spacing : Spacing) (owners : List ℕ) (join : Joined) (workers : ℕ) (found : List (ℕ × ℕ)) → 1 ≤ workers
    → ((e : ℕ × ℕ) → Contains found e ↔ ((k : ℕ) × (k < workers) × IsDealtEdge spacing owners join workers k e))
    → (e : ℕ × ℕ) → Contains found e ↔ IsFoundEdge spacing owners join e
edges-of_workers spacing owners join workers found some by e = (
  λ c. (let (k, l, (pair, dealt, p, edge)) = (by e).0 c in (pair, p, edge)),
  λ (pair, p, edge). (by e).1 (home_of join pair % workers, mod-lt (home_of join pair) (omega (arith, some)), (pair, refl, p, edge)),
)

-- one worker alone finds all
pub edges-of_one : (spacing : Spacing) (owners : List ℕ) (join : Joined) (found : List (ℕ × ℕ)) → ((e : ℕ × ℕ) → Contains found e ↔ IsDealtEdge spacing owners join 1 0 e)
    → (e : ℕ × ℕ) → Contains found e ↔ IsFoundEdge spacing owners join e
edges-of_one spacing owners join found by e = (
  λ c. (let (pair, dealt, p, edge) = (by e).0 c in (pair, p, edge)),
  λ (pair, p, edge). (by e).1 (pair, mod-one (home_of join pair), p, edge),
)

-- ---- in order

pub between-push : (low high : ℕ) (edge : ℕ × ℕ) (old new : List (ℕ × ℕ)) → low ≤ edge.0 → edge.0 < high → new ≡ old ++ edge ∷ [] → Adds (IsBetween low high edge) old new
between-push low high edge old new from to is = adds-same (λ f. f ≡ edge) (IsBetween low high edge) old new (λ f. (λ same. (same, from, to), λ h. h.0)) (adds-push old new edge is)

pub between-none : (low high : ℕ) (edge : ℕ × ℕ) (old : List (ℕ × ℕ)) → (low ≤ edge.0 → edge.0 < high → ⊥) → Adds (IsBetween low high edge) old old
between-none low high edge old out = adds-nothing (IsBetween low high edge) old (λ e h. out h.1 h.2)

pub between-all : (low high : ℕ) (found none edges : List (ℕ × ℕ)) → none ≡ [] → Adds (OfSome (IsBetween low high) found) none edges
    → (e : ℕ × ℕ) → Contains edges e ↔ (Contains found e × (low ≤ e.0) × (e.0 < high))
between-all low high found none edges is adds e =
    let h = added-to_none (OfSome (IsBetween low high) found) none edges is adds e in (
      λ c. (let (edge, edge_in, (same, from, to)) = h.0 c in
          (subst (Contains found) (sym same) edge_in, subst (λ (f : ℕ × ℕ). low ≤ f.0) (sym same) from, subst (λ (f : ℕ × ℕ). f.0 < high) (sym same) to)),
      λ (c, from, to). h.1 (e, c, (refl, from, to)),
    )

pub sorted-part : (low high : ℕ) (found xs sorted ys : List (ℕ × ℕ)) → ((e : ℕ × ℕ) → Contains xs e ↔ (Contains found e × (low ≤ e.0) × (e.0 < high)))
    → IsPermutation xs sorted → IsSorted pair_cmp sorted → ys ≡ dedup pair_eq sorted → AreSortedBetween found low high ys
sorted-part low high found xs sorted ys all same rising once = record {
  ordered = pairs-ordered (λ e. Contains found e × (low ≤ e.0) × (e.0 < high)) xs sorted ys all same rising once;
  exactly = pairs-members (λ e. Contains found e × (low ≤ e.0) × (e.0 < high)) xs sorted ys all same rising once;
}

pub sorted-both : (found : List (ℕ × ℕ)) (low middle high : ℕ) (one two : List (ℕ × ℕ)) → low ≤ middle → middle ≤ high
    → AreSortedBetween found low middle one → AreSortedBetween found middle high two → AreSortedBetween found low high (one ++ two)
sorted-both found low middle high one two from to a b = record {
  ordered = all_pairs-append Precedes one two a.ordered b.ordered
      (λ x y c d. (let under = ((a.exactly x).0 c).2 in let over = ((b.exactly y).0 d).1 in inl (omega (arith, under, over))));
  exactly = λ e. (
    λ c. elim (Contains-append_cases one two e c) [
      | inl h ↦ (let (f, l, m) = (a.exactly e).0 h in (f, l, omega (arith, m, to)))
      | inr h ↦ (let (f, l, m) = (b.exactly e).0 h in (f, omega (arith, l, from), m))
    ],
    λ (f, l, m). elim (cases_lt e.0 middle) [
      | inl k ↦ Contains-append_left one two e ((a.exactly e).1 (f, l, k))
      | inr k ↦ Contains-append_right one two e ((b.exactly e).1 (f, k, m))
    ],
  );
}

-- ---- conflicts

pub join-owned : (parts : List (List Rect)) (owners : List ℕ) (spacing : Spacing) (join : Joined) → length owners ≡ length parts → IsJoinOf parts spacing join
    → All (λ (item : Item). item.owner < length owners) join.items
join-owned parts owners spacing join each of k d k_in =
    let (n_in, c) = (of.listed (get_or join.items k d)).0 (Contains-get_or join.items k d k_in) in
    omega (arith, each, n_in)

pub join-solid : (parts : List (List Rect)) (spacing : Spacing) (join : Joined) → IsJoinOf parts spacing join → All (λ (item : Item). IsSolidWithin farthest item.rect) join.items
join-solid parts spacing join of k d k_in =
    let item = get_or join.items k d in
    let (n_in, c) = (of.listed item).0 (Contains-get_or join.items k d k_in) in
    slab-within parts item.owner item.rect of.parted n_in c

conflict-flip : (spacing : Spacing) (parts : List (List Rect)) (owners : List ℕ) (i j : ℕ) → Conflict spacing parts owners i j → Conflict spacing parts owners j i
conflict-flip spacing parts owners i j c = record {
  first = c.second;
  second = c.first;
  apart = λ e. c.apart (sym e);
  near = AreNear-sym spacing (part_at parts i) (part_at parts j) c.near;
}

module _ (parts : List (List Rect)) (owners : List ℕ) (spacing : Spacing) (join : Joined) (corner : spacing.corner ≤ spacing.rule) (of : IsJoinOf parts spacing join) where
  item-known : (n : ℕ) → n < length join.items → (item_at join.items n).owner < length parts
  item-known n n_in = ((of.listed (item_at join.items n)).0 (Contains-get_or join.items n no_item n_in)).0

  -- the slabs of an item are squares of its piece
  item-squares : (n : ℕ) (p : Pt) → n < length join.items → Has (item_at join.items n).rect p → part_at parts (item_at join.items n).owner p
  item-squares n p n_in h =
      let item = item_at join.items n in
      let (k_in, (j, j_in, is)) = (of.listed item).0 (Contains-get_or join.items n no_item n_in) in
      (j, item.rect, j_in, is, h)

  -- the item of a slab
  slab-item : (k : ℕ) (r : Rect) → k < length parts → Contains (get_or parts k []) r → (n : ℕ) × (n < length join.items) × (item_at join.items n ≡ record { rect = r; owner = k })
  slab-item k r k_in r_in =
      let item : Item = record { rect = r; owner = k } in
      let (n, n_in, is) = (of.listed item).1 (k_in, r_in) in
      (n, n_in, get_or_default join.items n no_item item n_in ∙ is)

  foes-conflict : (i j : ℕ) → i < length join.items → j < length join.items → AreFoes spacing owners (item_at join.items i) (item_at join.items j)
      → Conflict spacing parts owners (item_at join.items i).owner (item_at join.items j).owner
  foes-conflict i j i_in j_in foes =
      let (p, q, a, b, close) = foes.near in
      record { first = item-known i i_in; second = item-known j j_in; apart = foes.apart; near = (p, q, item-squares i p i_in a, item-squares j q j_in b, close) }

  edge-conflict : (e : ℕ × ℕ) → IsFoundEdge spacing owners join e → (e.0 < e.1) × Conflict spacing parts owners e.0 e.1
  edge-conflict e (pair, is_pair, (foes, is)) =
      let order = is_pair.order in
      let known = is_pair.known in
      let i = (item_at join.items pair.0).owner in
      let k = (item_at join.items pair.1).owner in
      let c = foes-conflict pair.0 pair.1 (omega (arith, order, known)) known foes in
      elim is [
        | inl (l, same) ↦ subst (λ f. let g : ℕ × ℕ = f in (g.0 < g.1) × Conflict spacing parts owners g.0 g.1) (sym same) (l, c)
        | inr (l, same) ↦
            let far : k < i = elim (cases_eq k i) [ inl eq ↦ absurd (is_pair.apart (sym eq)) | inr ne ↦ omega (arith, l, ne) ] in
            subst (λ f. let g : ℕ × ℕ = f in (g.0 < g.1) × Conflict spacing parts owners g.0 g.1) (sym same) (far, conflict-flip spacing parts owners i k c)
      ]

  -- the edge of two items with near squares
  near-edge : (i j : ℕ) (p q : Pt) (e : ℕ × ℕ) → i < j → j < length join.items → (item_at join.items i).owner ≢ (item_at join.items j).owner
      → slice_index owners (item_at join.items i).owner ≢ slice_index owners (item_at join.items j).owner → Has (item_at join.items i).rect p → Has (item_at join.items j).rect q
      → Near spacing p q → IsEnds (item_at join.items i).owner (item_at join.items j).owner e → IsFoundEdge spacing owners join e
  near-edge i j p q e order known differ apart a b close is =
      let near = near-close spacing (item_at join.items i).rect (item_at join.items j).rect corner (p, q, a, b, close) in (
        (i, j),
        record { order = order; known = known; apart = differ; close = rw of.rule near },
        (record { apart = apart; near = (p, q, a, b, close) }, is),
      )

  conflict-edge : (e : ℕ × ℕ) → e.0 < e.1 → Conflict spacing parts owners e.0 e.1 → IsFoundEdge spacing owners join e
  conflict-edge e l c =
      let (p, q, (s, r, s_in, r_is, a), (t, u, t_in, u_is, b), close) = c.near in
      let (i, i_in, i_is) = slab-item e.0 r c.first (s, s_in, r_is) in
      let (j, j_in, j_is) = slab-item e.1 u c.second (t, t_in, u_is) in
      let has_p : Has (item_at join.items i).rect p = subst (λ (x : Item). Has x.rect p) (sym i_is) a in
      let has_q : Has (item_at join.items j).rect q = subst (λ (x : Item). Has x.rect q) (sym j_is) b in
      let i_own : (item_at join.items i).owner ≡ e.0 = ap (λ (x : Item). x.owner) i_is in
      let j_own : (item_at join.items j).owner ≡ e.1 = ap (λ (x : Item). x.owner) j_is in
      let differ : (item_at join.items i).owner ≢ (item_at join.items j).owner = λ same. omega (arith, i_own, j_own, same, l) in
      let apart : slice_index owners (item_at join.items i).owner ≢ slice_index owners (item_at join.items j).owner =
      λ same. c.apart (sym (ap (slice_index owners) i_own) ∙ (same ∙ ap (slice_index owners) j_own)) in
      elim (cases_order i j) [
        | inl same ↦ absurd (differ (ap (λ n. (item_at join.items n).owner) same))
        | inr (inl m) ↦ near-edge i j p q e m j_in differ apart has_p has_q close (rw (i_own, j_own) (inl (l, refl)))
        | inr (inr m) ↦ near-edge j i q p e m i_in (λ same. differ (sym same)) (λ same. apart (sym same)) has_q has_p (Near-sym spacing p q close)
            (rw (i_own, j_own) (inr (omega (arith, l), refl)))
      ]

  -- the edges of all pairs, in order, are the conflicts
  pub sorted-conflicts : (found edges : List (ℕ × ℕ)) (count : ℕ) → ((e : ℕ × ℕ) → Contains found e ↔ IsFoundEdge spacing owners join e) → count ≡ length parts
      → AreSortedBetween found 0 count edges → AreEdges (Conflict spacing parts owners) edges
  sorted-conflicts found edges count all is sorted = record {
    ordered = sorted.ordered;
    exactly = λ u v. (
      λ c. edge-conflict (u, v) ((all (u, v)).0 ((sorted.exactly (u, v)).0 c).0),
      λ (l, c). (let first = c.first in (sorted.exactly (u, v)).1 ((all (u, v)).1 (conflict-edge (u, v) l c), omega arith, omega (arith, first, is))),
    );
  }
