-- The lists of the tiles' edges have the edges of all slabs that touch.
use Rattle.std.proofs.Common.{◌≡◌, ℕ, ◌<◌, inl, inr, List, [], ◌∷◌, Bool, true, cond, length, get_or, refl, sym, subst, ◌∙◌, arith}
use Rattle.std.specs.List.{Contains, flat_map}
use Rattle.std.proofs.lemmas.Bool.{cases_Bool}
use Rattle.std.proofs.lemmas.List.{get_or_default}
use Rattle.std.proofs.lemmas.List.FromFn.{get_or-range_with_len, length-range_with_len}
use Rattle.std.proofs.lemmas.List.Elements.{All-map, Contains-get_or}
use Rattle.dpl_spec_split.specs.declared.Pt.{Pt}
use Rattle.dpl_spec_split.specs.declared.Rect.{Rect}
use Rattle.dpl_spec_split.specs.Squares.{Covers, Has}
use Rattle.dpl_spec_split.specs.Slabs.{IsCanonical}
use Rattle.dpl_spec_split.proofs.Ordered.{has-map, map-has, Contains-cases, Contains-nil}
use Rattle.dpl_spec_split.proofs.SquareLaws.{Touch-sym}
use Rattle.dpl_stars.specs.Sums.{AreEdgePairs}
use Rattle.dpl_board.specs.Sheets.{IsSheet, all_edges}
use Rattle.dpl_board.proofs.Flats.{from-flat, in-flat}
use Rattle.dpl_wide.specs.Sheets.{SlabTiles, below, edge_in, edges_in, sheet_of, touch_in}
use Rattle.dpl_wide.specs.Touching.{AreTouchEdges, SlabsTouch, crossed, no_slab, slab_at}
use Rattle.dpl_wide.proofs.Crossing.{crossed-pair}
use Rattle.dpl_wide.proofs.Rects.{in-yes, yes-in}
use Rattle.dpl_wide.proofs.Rooting.{slab-solid}

below-has : (n k : ℕ) → k < n → Contains (below n) k
below-has n k l = (k, rw (length-range_with_len 0 n) l, get_or-range_with_len 0 n k k l ∙ omega arith)

has-below : (n k : ℕ) → Contains (below n) k → k < n
has-below n k (i, l, is) = let here : i < n = rw (← length-range_with_len 0 n) l in let same = sym (get_or-range_with_len 0 n i k here) ∙ is in omega (arith, here, same)

module _ (slabs : List Rect) (cell : Rect) where
  -- the edge of two slabs that touch by a square in the cell
  pub record IsEdgeIn (i j : ℕ) (e : ℕ × ℕ) : Type 0 where
    pub first : i < length slabs
    pub second : j < length slabs
    pub touch : touch_in cell (slab_at slabs i) (slab_at slabs j) ≡ true
    pub is : e ≡ crossed i j

  edge-touch : (i j : ℕ) (e : ℕ × ℕ) → Contains (edge_in slabs cell i j) e → (touch_in cell (slab_at slabs i) (slab_at slabs j) ≡ true) × (e ≡ crossed i j)
  edge-touch i j e c = elim (cases_Bool (touch_in cell (slab_at slabs i) (slab_at slabs j))) [
    | inl touch ↦ (
      touch,
      (let one : Contains (crossed i j ∷ []) e = subst (λ (b : Bool). Contains (cond b (crossed i j ∷ []) []) e) touch c in
          elim (Contains-cases (crossed i j) e [] one) [ inl is ↦ sym is | inr none ↦ absurd (Contains-nil e none) ]),
    )
    | inr none ↦ absurd (Contains-nil e (subst (λ (b : Bool). Contains (cond b (crossed i j ∷ []) []) e) none c))
  ]

  touch-edge : (i j : ℕ) (e : ℕ × ℕ) → touch_in cell (slab_at slabs i) (slab_at slabs j) ≡ true → e ≡ crossed i j → Contains (edge_in slabs cell i j) e
  touch-edge i j e touch is =
      let one : Contains (crossed i j ∷ []) e = (0, omega arith, sym is) in
      subst (λ (b : Bool). Contains (cond b (crossed i j ∷ []) []) e) (sym touch) one

  pub edges-are : (e : ℕ × ℕ) → Contains (edges_in slabs cell) e → (i j : ℕ) × IsEdgeIn i j e
  edges-are e c =
      let (i, i_below, in_row) = from-flat (λ (i : ℕ). flat_map (edge_in slabs cell i) (below (length slabs))) (below (length slabs)) e c in
      let (j, j_below, one) = from-flat (edge_in slabs cell i) (below (length slabs)) e in_row in
      let (touch, is) = edge-touch i j e one in
      (i, j, record { first = has-below (length slabs) i i_below; second = has-below (length slabs) j j_below; touch = touch; is = is })

  pub are-edges : (i j : ℕ) (e : ℕ × ℕ) → IsEdgeIn i j e → Contains (edges_in slabs cell) e
  are-edges i j e h =
      in-flat (λ (i : ℕ). flat_map (edge_in slabs cell i) (below (length slabs))) (below (length slabs)) i e (below-has (length slabs) i h.first)
      (in-flat (edge_in slabs cell i) (below (length slabs)) j e (below-has (length slabs) j h.second) (touch-edge i j e h.touch h.is))

  pub edges-paired : AreEdgePairs (edges_in slabs cell)
  edges-paired k d l =
      let (i, j, h) = edges-are (get_or (edges_in slabs cell) k d) (Contains-get_or (edges_in slabs cell) k d l) in
      crossed-pair i j (get_or (edges_in slabs cell) k d) h.is

pub is-sheet : (tiles : SlabTiles) → IsSheet (sheet_of tiles)
is-sheet tiles = All-map AreEdgePairs (edges_in tiles.slabs) tiles.cells (λ k d l. edges-paired tiles.slabs (get_or tiles.cells k d))

module _ (tiles : SlabTiles) (canonical : IsCanonical tiles.slabs) where
  touch-from : (cell : Rect) (i j : ℕ) (e : ℕ × ℕ) → IsEdgeIn tiles.slabs cell i j e → SlabsTouch tiles.slabs i j
  touch-from cell i j e h = record {
    first = h.first;
    second = h.second;
    touching = elim (in-yes cell (slab_at tiles.slabs i) (slab_at tiles.slabs j) (slab-solid tiles.slabs canonical i h.first) (slab-solid tiles.slabs canonical j h.second) h.touch) [
      | inl (p, q, a, b, touch) ↦ (p, q, a.0, b, touch)
      | inr (q, p, b, a, touch) ↦ (p, q, a, b.0, Touch-sym q p touch)
    ];
  }

  -- where each square is in some cell
  pub all-touch : ((p : Pt) → Covers tiles.slabs p → (cell : Rect) × Contains tiles.cells cell × Has cell p) → AreTouchEdges tiles.slabs (all_edges (sheet_of tiles))
  all-touch some e = (
    λ c. (
        let (es, in_sheet, in_es) = from-flat (λ (es : List (ℕ × ℕ)). es) (sheet_of tiles) e c in
        let (cell, in_cells, is) = has-map (edges_in tiles.slabs) tiles.cells es in_sheet in
        let (i, j, h) = edges-are tiles.slabs cell e (subst (λ (xs : List (ℕ × ℕ)). Contains xs e) (sym is) in_es) in
        (i, j, touch-from cell i j e h, h.is)),
    λ (i, j, both, is). (
        let (p, q, a, b, near) = both.touching in
        let (cell, in_cells, inside) = some p (i, slab_at tiles.slabs i, both.first, get_or_default tiles.slabs i (slab_at tiles.slabs i) no_slab both.first, a) in
        let touch = yes-in cell (slab_at tiles.slabs i) (slab_at tiles.slabs j) (inl (p, q, (a, inside), b, near)) in
        in-flat (λ (es : List (ℕ × ℕ)). es) (sheet_of tiles) (edges_in tiles.slabs cell) e (map-has (edges_in tiles.slabs) tiles.cells cell (edges_in tiles.slabs cell) in_cells refl)
        (are-edges tiles.slabs cell i j e (record { first = both.first; second = both.second; touch = touch; is = is }))),
  )
