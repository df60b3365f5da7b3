-- The lists of a plan's conflicts are what the definitions ask for.
use Rattle.std.proofs.Common.{rules, ◌≡◌, ℕ, ◌<◌, List, [], ◌∷◌, length, get_or, map, Bool, true, inl, inr, zero, suc, refl, ap, subst, arith}
use Rattle.std.specs.Prelude.{◌==◌, ◌&&◌, ◌||◌, ◌⊎◌, ◌↔◌, not, nat_lt, slice_index, slice_index_or, slice_get, Option, Some, None, IfSome}
use Rattle.std.specs.List.{Any, Contains, filter, list_any}
use Rattle.std.proofs.lemmas.Bool.{and_parts, and_from, or_cases, or_left, or_right, ltb-true, lt-ltb, eqb-false, ne_eqb, not-true}
use Rattle.std.proofs.lemmas.List.Elements.{All-map, All-weaker, filter_passes}
use Rattle.std.proofs.lemmas.List.Kept.{AllPairs-filter}
use Rattle.dpl_spec_split.specs.declared.Rect.{Rect}
use Rattle.dpl_spec_split.specs.Squares.{AreNear}
use Rattle.dpl_spec_split.specs.Zones.{part_at}
use Rattle.dpl_spec_split.specs.Pieces.{Conflict}
use Rattle.dpl_spec_split.specs.Graphs.{AreEdges, Precedes, graph_of}
use Rattle.dpl_spec_split.specs.Marks.{Marks, graph}
use Rattle.dpl_spec_split.proofs.GraphLaws.{edges-unique}
use Rattle.dpl_spec_split.proofs.SquareLaws.{AreNear-sym}
use Rattle.dpl_stars.specs.declared.joined.Joined.{Joined}
use Rattle.dpl_stars.specs.Sums.{AreEdgePairs, Sums, summary_of}
use Rattle.dpl_stars.proofs.SameGraph.{same-members, summary-along}
use Rattle.dpl_tile.specs.Plans.{Planned}
use Rattle.dpl_edges.proofs.Conflicts.{tiles-graph}
use Rattle.dpl_edges.specs.InCells.{AreEdgesOf, ConflictIn, in_cell}
use Rattle.dpl_board.specs.Sheets.{IsSheet, all_edges, edges_at}
use Rattle.dpl_board.specs.Boards.{AreAllPosted, Board, Stands, SumsPosted}
use Rattle.dpl_board.proofs.AllPosted.{all-posted}
use Rattle.dpl_board.proofs.Flats.{from-flat, in-flat}
use Rattle.dpl_answer.specs.Conflicts.{IsTiled, SumsGraph}
use Rattle.dpl_answer.specs.Anchors.{AreMarkEdges, moved, with_marks}
use Rattle.dpl_answer.specs.Sheets.{HasRoom, MarkedPlan, conflicts_in, is_conflict_in, is_near_in, pairs_below, part_of, sheet_of, sheet_with, tile_sheet}
use Rattle.dpl_spec_split.proofs.Ordered.{has-map, map-has}
use Rattle.dpl_answer.proofs.Anchoring.{graph-listed}
use Rattle.dpl_answer.proofs.Moving.{with-sheet, with-sums}
use Rattle.dpl_answer.proofs.Members.{any-has, has-any, has-kept, has-passed, kept-has, passed-has}
use Rattle.dpl_answer.proofs.Nearness.{near-yes, yes-near}
use Rattle.dpl_answer.proofs.Pairs.{has-pair, pair-below, pairs-ordered}

abbrev In : Planned → Rect → ℕ → ℕ → Type 0
In plan cell i j = ConflictIn plan.spacing plan.parts plan.owners cell i j

near-one : (plan : Planned) (cell : Rect) (i j : ℕ) → AreNear plan.spacing (in_cell cell (part_at plan.parts i)) (part_at plan.parts j)
    ⊎ AreNear plan.spacing (part_at plan.parts i) (in_cell cell (part_at plan.parts j))
    → (is_near_in plan.spacing cell (part_of plan i) (part_of plan j) || is_near_in plan.spacing cell (part_of plan j) (part_of plan i)) ≡ true
near-one plan cell i j (inl first) = or_left _ _ (near-yes plan.spacing cell (part_of plan i) (part_of plan j) first)
near-one plan cell i j (inr second) = or_right _ _ (near-yes plan.spacing cell (part_of plan j) (part_of plan i) (AreNear-sym plan.spacing _ _ second))

pub conflict-yes : (plan : Planned) (cell : Rect) (i j : ℕ) → i < j → In plan cell i j → is_conflict_in plan cell (i, j) ≡ true
conflict-yes plan cell i j l c =
    and_from _ _ (and_from (nat_lt i j) (not (slice_index plan.owners i == slice_index plan.owners j)) (lt-ltb i j l)
    (ap not (ne_eqb (slice_index plan.owners i) (slice_index plan.owners j) c.apart))) (near-one plan cell i j c.near)

pub yes-conflict : (plan : Planned) (cell : Rect) (i j : ℕ) → i < length plan.parts → j < length plan.parts → is_conflict_in plan cell (i, j) ≡ true → (i < j) × In plan cell i j
yes-conflict plan cell i j first second h =
    let (both, near) = and_parts (nat_lt i j && not (slice_index plan.owners i == slice_index plan.owners j)) _ h in
    let (l, apart) = and_parts (nat_lt i j) (not (slice_index plan.owners i == slice_index plan.owners j)) both in (
      ltb-true i j l,
      record {
        first = first;
        second = second;
        apart = eqb-false (slice_index plan.owners i) (slice_index plan.owners j) (not-true _ apart);
        near = elim (or_cases (is_near_in plan.spacing cell (part_of plan i) (part_of plan j)) (is_near_in plan.spacing cell (part_of plan j) (part_of plan i)) near) [
          | inl here ↦ inl (yes-near plan.spacing cell (part_of plan i) (part_of plan j) here)
          | inr there ↦ inr (AreNear-sym plan.spacing _ _ (yes-near plan.spacing cell (part_of plan j) (part_of plan i) there))
        ];
      },
    )

pub listed : (plan : Planned) (cell : Rect) → AreEdges (In plan cell) (conflicts_in plan cell)
listed plan cell = record {
  ordered = AllPairs-filter Precedes (is_conflict_in plan cell) (pairs_below (length plan.parts)) (pairs-ordered (length plan.parts));
  exactly = λ u v. (
    λ c. (let (in_pairs, passes) = kept-has (is_conflict_in plan cell) (pairs_below (length plan.parts)) (u, v) c in
        let (first, second) = pair-below (length plan.parts) (u, v) in_pairs in yes-conflict plan cell u v first second passes),
    λ (l, c). has-kept (is_conflict_in plan cell) (pairs_below (length plan.parts)) (u, v) (has-pair (length plan.parts) u v c.first c.second) (conflict-yes plan cell u v l c),
  );
}

pub pairs-of : (plan : Planned) (cell : Rect) → AreEdgePairs (conflicts_in plan cell)
pairs-of plan cell = All-weaker (λ e. is_conflict_in plan cell e ≡ true) (λ (e : ℕ × ℕ). e.0 < e.1)
    (λ e h. (let (both, near) = and_parts (nat_lt e.0 e.1 && not (slice_index plan.owners e.0 == slice_index plan.owners e.1)) _ h in
    let (l, apart) = and_parts (nat_lt e.0 e.1) _ both in ltb-true e.0 e.1 l))
    (conflicts_in plan cell) (filter_passes (is_conflict_in plan cell) (pairs_below (length plan.parts)))

pub is-sheet : (plan : Planned) → IsSheet (tile_sheet plan)
is-sheet plan = All-map AreEdgePairs (conflicts_in plan) plan.cells (λ k d l. pairs-of plan (get_or plan.cells k d))

-- and with the marks' tile, where there is room for it
pub marked-sheet : (plan : Planned) (marked : Option (List (ℕ × ℕ))) → HasRoom plan marked → IsSheet (sheet_with marked (tile_sheet plan))
marked-sheet plan None room = is-sheet plan
marked-sheet plan (Some marked) room = with-sheet (Some marked) (tile_sheet plan) room.1 (is-sheet plan)

get-some : (xs : List Rect) (t : ℕ) → t < length xs → (x : Rect) × (slice_get xs t ≡ Some x)
get-some [] t l = absurd (omega (arith, l))
get-some (x ∷ xs) zero l = (x, refl)
get-some (x ∷ xs) (suc t) l = get-some xs t (omega (arith, l))

same-rect : (x y : Rect) → Some x ≡ Some y → x ≡ y
same-rect x y h = ap (λ o. elim o as (λ _. Rect) [ None ↦ x | Some z ↦ z ]) h

at-map : (f : Rect → List (ℕ × ℕ)) (xs : List Rect) (t : ℕ) (x : Rect) → slice_get xs t ≡ Some x → slice_index_or (map f xs) t [] ≡ f x
at-map f [] t x h = search rules
at-map f (y ∷ xs) zero x h = ap f (same-rect y x h)
at-map f (y ∷ xs) (suc t) x h = at-map f xs t x h

-- two lists of the edges of one graph have the same ones
same-listed : (G : ℕ → ℕ → Type 0) (es fs : List (ℕ × ℕ)) → AreEdges G es → AreEdges G fs → (e : ℕ × ℕ) → Contains es e ↔ Contains fs e
same-listed G es fs one other e = (
  λ c. (other.exactly e.0 e.1).1 ((one.exactly e.0 e.1).0 c),
  λ c. (one.exactly e.0 e.1).1 ((other.exactly e.0 e.1).0 c),
)

-- what sums up a tile's edges sums up its list
pub tile-sums : (plan : Planned) (tile : ℕ) (es : List (ℕ × ℕ)) (j : Joined) → tile < length plan.cells → AreEdgesOf plan tile es
    → Sums es j → Sums (edges_at (tile_sheet plan) tile) j
tile-sums plan tile es j below are sums =
    let (cell, is) = get-some plan.cells tile below in
    let edges : AreEdges (In plan cell) es = subst (λ (o : Option Rect). IfSome o (λ cell. AreEdges (In plan cell) es)) is are in
    rw (at-map (conflicts_in plan) plan.cells tile cell is) (summary-along (graph_of es) (graph_of (conflicts_in plan cell))
    (same-members es (conflicts_in plan cell) (same-listed (In plan cell) es (conflicts_in plan cell) edges (listed plan cell)))
    (summary_of j) sums)

module _ (plan : Planned) (law : (i j : ℕ) → Conflict plan.spacing plan.parts plan.owners i j ↔ Any (λ cell. In plan cell i j) plan.cells) where
  some_cell : ℕ × ℕ → Bool
  some_cell e = list_any (λ cell. is_conflict_in plan cell e) plan.cells

  abbrev whole : List (ℕ × ℕ)
  whole = filter (λ e. list_any (λ cell. is_conflict_in plan cell e) plan.cells) (pairs_below (length plan.parts))

  whole-listed : AreEdges (Conflict plan.spacing plan.parts plan.owners) whole
  whole-listed = record {
    ordered = AllPairs-filter Precedes (λ e. list_any (λ cell. is_conflict_in plan cell e) plan.cells) (pairs_below (length plan.parts)) (pairs-ordered (length plan.parts));
    exactly = λ u v. (
      λ c. (
          let (in_pairs, passes) = kept-has (λ e. list_any (λ cell. is_conflict_in plan cell e) plan.cells) (pairs_below (length plan.parts)) (u, v) c in
          let (first, second) = pair-below (length plan.parts) (u, v) in_pairs in
          let (cell, in_cells, here) = passed-has (λ cell. is_conflict_in plan cell (u, v)) plan.cells passes in
          let (l, conflict) = yes-conflict plan cell u v first second here in
          (l, (law u v).1 (has-any (λ cell. In plan cell u v) plan.cells cell in_cells conflict))
          ),
      λ (l, c). (
          let (cell, in_cells, conflict) = any-has (λ cell. In plan cell u v) plan.cells ((law u v).0 c) in
          has-kept (λ e. list_any (λ cell. is_conflict_in plan cell e) plan.cells) (pairs_below (length plan.parts)) (u, v) (has-pair (length plan.parts) u v c.first c.second)
          (has-passed (λ cell. is_conflict_in plan cell (u, v)) plan.cells cell in_cells (conflict-yes plan cell u v l conflict))
          ),
    );
  }

  same-whole : (e : ℕ × ℕ) → Contains (all_edges (tile_sheet plan)) e ↔ Contains whole e
  same-whole e = (
    λ c. (
        let (es, in_sheet, in_es) = from-flat (λ (es : List (ℕ × ℕ)). es) (tile_sheet plan) e c in
        let (cell, in_cells, is) = has-map (conflicts_in plan) plan.cells es in_sheet in
        let (in_pairs, passes) = kept-has (is_conflict_in plan cell) (pairs_below (length plan.parts)) e (rw is in_es) in
        has-kept (λ e. list_any (λ cell. is_conflict_in plan cell e) plan.cells) (pairs_below (length plan.parts)) e in_pairs
        (has-passed (λ cell. is_conflict_in plan cell e) plan.cells cell in_cells passes)
        ),
    λ c. (
        let (in_pairs, passes) = kept-has (λ e. list_any (λ cell. is_conflict_in plan cell e) plan.cells) (pairs_below (length plan.parts)) e c in
        let (cell, in_cells, here) = passed-has (λ cell. is_conflict_in plan cell e) plan.cells passes in
        in-flat (λ (es : List (ℕ × ℕ)). es) (tile_sheet plan) (conflicts_in plan cell) e
        (map-has (conflicts_in plan) plan.cells cell (conflicts_in plan cell) in_cells refl)
        (has-kept (is_conflict_in plan cell) (pairs_below (length plan.parts)) e in_pairs here)
        ),
  )

  -- what sums up the edges of all tiles sums up the graph
  pub all-sums : (marks : Option Marks) (marked : Option (List (ℕ × ℕ))) (j : Joined) → AreMarkEdges marks plan.parts marked → Sums (all_edges (sheet_with marked (tile_sheet plan))) j
      → SumsGraph (graph marks plan.spacing plan.parts plan.owners) j
  all-sums marks marked j fixed sums = (
    with_marks marked whole,
    graph-listed marks plan.spacing plan.parts plan.owners marked whole fixed whole-listed,
    with-sums marked (tile_sheet plan) whole j same-whole sums,
  )

-- pieces conflict exactly where they do so by the squares in some tile's cell
pub conflict-in-cells : (plan : Planned) → IsTiled plan → (i j : ℕ) → Conflict plan.spacing plan.parts plan.owners i j ↔ Any (λ cell. In plan cell i j) plan.cells
conflict-in-cells plan (side, some, tiles) i j = tiles-graph plan.spacing side plan.parts plan.owners plan.cells some tiles i j

pub joined-sums : (marks : Option Marks) (job : MarkedPlan) (b : Board) (j : Joined) → AreMarkEdges marks job.plan.parts job.marked → IsTiled job.plan →
    Stands (sheet_of job) b → AreAllPosted b → SumsPosted b j
    → SumsGraph (graph marks job.plan.spacing job.plan.parts job.plan.owners) j
joined-sums marks job b j fixed tiled stands all sums =
    all-sums job.plan (conflict-in-cells job.plan tiled) marks job.marked j fixed (all-posted (sheet_of job) b j stands all (sums (sheet_of job) stands))

-- what sums up a tile's edges by vertices sums up its list by vertices
pub tile-moved : (plan : Planned) (tile : ℕ) (es : List (ℕ × ℕ)) (j : Joined) → tile < length plan.cells → AreEdgesOf plan tile es
    → Sums (moved es) j → Sums (moved (edges_at (tile_sheet plan) tile)) j
tile-moved plan tile es j below are sums =
    let (cell, is) = get-some plan.cells tile below in
    let edges : AreEdges (In plan cell) es = subst (λ (o : Option Rect). IfSome o (λ cell. AreEdges (In plan cell) es)) is are in
    let same : es ≡ conflicts_in plan cell = edges-unique (In plan cell) es (conflicts_in plan cell) edges (listed plan cell) in
    rw (at-map (conflicts_in plan) plan.cells tile cell is) (subst (λ xs. Sums (moved xs) j) same sums)
