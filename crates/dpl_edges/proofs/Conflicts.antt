-- Conflicts by cells, and all of them.
use Rattle.std.proofs.Common.{◌≡◌, ℕ, ◌<◌, inl, inr, List, [], length, get_or, arith}
use Rattle.std.specs.Prelude.{◌↔◌}
use Rattle.std.specs.List.{All, Contains, dedup}
use Rattle.std.specs.List.Sorted.{IsSorted, IsPermutation}
use Rattle.std.proofs.lemmas.Int.{ints}
use Rattle.std.proofs.lemmas.List.{get_or_default}
use Rattle.std.proofs.lemmas.List.Elements.{Contains-get_or}
use Rattle.dpl_spec_split.specs.declared.Spacing.{Spacing}
use Rattle.dpl_spec_split.specs.declared.Pt.{Pt}
use Rattle.dpl_spec_split.specs.declared.Rect.{Rect}
use Rattle.dpl_spec_split.specs.Squares.{Has, IsSolidWithin}
use Rattle.dpl_spec_split.specs.Zones.{part_at}
use Rattle.dpl_spec_split.specs.Graphs.{AreEdges}
use Rattle.dpl_spec_split.specs.Pieces.{Conflict}
use Rattle.dpl_spec_split.specs.Loops.{farthest}
use Rattle.dpl_slabs.specs.Parts.{AreParts, union_of}
use Rattle.dpl_tile.proofs.TileLaws.{squares-one_cell}
use Rattle.dpl_tile.proofs.Orders.{pair_cmp, pair_eq, pairs-members, pairs-ordered}
use Rattle.dpl_edges.specs.InCells.{ConflictIn, TilesMakeTheGraph}
use Rattle.dpl_edges.specs.Meetings.{IsWhole}
use Rattle.dpl_edges.proofs.Windows.{slab-within}

-- a conflict by a cell is one
pub conflict-of_cell : (spacing : Spacing) (parts : List (List Rect)) (owners : List ℕ) (cell : Rect) (i j : ℕ) → ConflictIn spacing parts owners cell i j → Conflict spacing parts owners i j
conflict-of_cell spacing parts owners cell i j c =
    record {
      first = c.first;
      second = c.second;
      apart = c.apart;
      near = elim c.near [ inl (p, q, a, b, near) ↦ (p, q, a.0, b, near) | inr (p, q, a, b, near) ↦ (p, q, a, b.0, near) ];
    }

-- each conflict is one by the whole
whole_has : (r : Rect) (parts : List (List Rect)) (k : ℕ) (p : Pt) → IsWhole r → AreParts parts → k < length parts → part_at parts k p → Has r p
whole_has r parts k p whole h k_in (m, s, m_in, is, has) =
    let w : IsSolidWithin farthest s = slab-within parts k s h k_in (m, m_in, is) in
    let a = has.left in
    let b = has.right in
    let c = has.low in
    let d = has.high in
    let e = w.left in
    let f = w.right in
    let u = w.low in
    let v = w.high in
    let i = whole.left in
    let j = whole.right in
    let l = whole.low in
    let n = whole.high in
    record { left = omega (arith, ints, a, e, i); right = omega (arith, ints, b, f, j); low = omega (arith, ints, c, u, l); high = omega (arith, ints, d, v, n) }

pub conflict-of_whole : (spacing : Spacing) (parts : List (List Rect)) (owners : List ℕ) (whole : Rect) (i j : ℕ) → IsWhole whole → AreParts parts
    → ConflictIn spacing parts owners whole i j ↔ Conflict spacing parts owners i j
conflict-of_whole spacing parts owners whole i j all h = (
  conflict-of_cell spacing parts owners whole i j,
  λ c. (let (p, q, a, b, near) = c.near in
      record {
        first = c.first;
        second = c.second;
        apart = c.apart;
        near = inl (
          p,
          q,
          (a, whole_has whole parts i p all h c.first a),
          b,
          near,
        );
      }),
)

part_square : (parts : List (List Rect)) (i : ℕ) (p : Pt) → i < length parts → part_at parts i p → union_of parts p
part_square parts i p i_in h = (i, get_or parts i [], i_in, get_or_default parts i (get_or parts i []) [] i_in, h)

pub tiles-graph : TilesMakeTheGraph
tiles-graph spacing tile parts owners cells some tiles i j = (
  λ c. (
      let (p, q, a, b, near) = c.near in
      let (cell, only) = squares-one_cell parts tile cells some tiles p (part_square parts i p c.first a) in
      let (k, k_in, is) = only.listed in
      (k, cell, k_in, is, record { first = c.first; second = c.second; apart = c.apart; near = inl (p, q, (a, only.inside), b, near) })),
  λ (k, cell, k_in, is, c). conflict-of_cell spacing parts owners cell i j c,
)

module _ (spacing : Spacing) (parts : List (List Rect)) (owners : List ℕ) (cell : Rect) (xs sorted ys : List (ℕ × ℕ)) (all : (e : ℕ × ℕ)
    → Contains xs e ↔ ((e.0 < e.1) × ConflictIn spacing parts owners cell e.0 e.1))
    (same : IsPermutation xs sorted) (rising : IsSorted pair_cmp sorted) (once : ys ≡ dedup pair_eq sorted) where
  members : (e : ℕ × ℕ) → Contains ys e ↔ ((e.0 < e.1) × ConflictIn spacing parts owners cell e.0 e.1)
  members = pairs-members (λ e. (e.0 < e.1) × ConflictIn spacing parts owners cell e.0 e.1) xs sorted ys all same rising once

  pub edges-are : AreEdges (ConflictIn spacing parts owners cell) ys
  edges-are = record { ordered = pairs-ordered (λ e. (e.0 < e.1) × ConflictIn spacing parts owners cell e.0 e.1) xs sorted ys all same rising once; exactly = λ u v. members (u, v) }

  pub edges-below : All (λ (e : ℕ × ℕ). (e.0 < e.1) × (e.1 < length parts)) ys
  edges-below k d l =
      let (a, c) = (members (get_or ys k d)).0 (Contains-get_or ys k d l) in
      (a, c.second)

pub whole-edges : (spacing : Spacing) (parts : List (List Rect)) (owners : List ℕ) (whole : Rect) (edges : List (ℕ × ℕ)) → IsWhole whole
    → AreParts parts → AreEdges (ConflictIn spacing parts owners whole) edges → AreEdges (Conflict spacing parts owners) edges
whole-edges spacing parts owners whole edges all h e =
    record {
      ordered = e.ordered;
      exactly = λ u v. (
        λ c. (let (l, k) = (e.exactly u v).0 c in (l, (conflict-of_whole spacing parts owners whole u v all h).0 k)),
        λ (l, k). (e.exactly u v).1 (l, (conflict-of_whole spacing parts owners whole u v all h).1 k),
      );
    }
