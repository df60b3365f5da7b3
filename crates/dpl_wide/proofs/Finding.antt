-- What a search over the slabs of a tile finds, and what the summary of all tiles sums up.
use Rattle.std.proofs.Common.{◌≡◌, ℕ, ◌+◌, ◌<◌, ◌≤◌, ◌^◌, inl, inr, List, [], ◌∷◌, ◌++◌, length, get_or, refl, sym, subst, ◌∙◌, arith}
use Rattle.std.specs.Prelude.{◌↔◌, IfSome, Option, Some, slice_get}
use Rattle.std.specs.List.{All, Contains}
use Rattle.std.proofs.lemmas.List.{get_or_default, get_or-map, length-map}
use Rattle.std.proofs.lemmas.Option.{slice_get-get_or}
use Rattle.std.proofs.lemmas.List.Elements.{All-contains, Contains-get_or}
use Rattle.dpl_spec_split.specs.declared.Pt.{Pt}
use Rattle.dpl_spec_split.specs.declared.Rect.{Rect}
use Rattle.dpl_spec_split.specs.Squares.{Covers, Has}
use Rattle.dpl_spec_split.specs.Slabs.{IsCanonical, IsSolid}
use Rattle.dpl_tree.specs.declared.items.Item.{Item}
use Rattle.dpl_tree.specs.declared.owners.Owners.TheVariants.{All as Everyone}
use Rattle.dpl_tree.specs.Trees.{AreItemsOf, ArePassed, IsMissed, LiesApart}
use Rattle.dpl_tile.specs.Adding.{Adds}
use Rattle.dpl_tile.specs.Tiles.{AreTiles}
use Rattle.dpl_tile.specs.Plans.{Planned}
use Rattle.dpl_tile.proofs.Adding.{OfFirst, adds-next, adds-none, adds-same}
use Rattle.dpl_tile.proofs.Loops.{Nth, adds-push, both-added}
use Rattle.dpl_tile.proofs.TileLaws.{squares-one_cell}
use Rattle.dpl_stars.specs.declared.joined.Joined.{Joined}
use Rattle.dpl_board.specs.Boards.{AreAllPosted, Board, Stands, SumsPosted}
use Rattle.dpl_board.specs.Sheets.{all_edges, edges_at}
use Rattle.dpl_stars.specs.Sums.{AreEdgePairs, Sums, summary_of}
use Rattle.dpl_stars.proofs.SameGraph.{same-members, summary-along}
use Rattle.dpl_edges.specs.InCells.{AreEdgesOf, ConflictIn}
use Rattle.dpl_spec_split.specs.Graphs.{AreEdges, graph_of}
use Rattle.dpl_board.proofs.AllPosted.{all-posted}
use Rattle.dpl_wide.specs.Sheets.{IsOwnEdge, IsOwnEdgeOf, IsPairEdgeOf, IsSlabPlan, SlabTiles, edges_in, sheet_of}
use Rattle.dpl_wide.specs.Touching.{SumsTouching, alone, crossed, no_slab}
use Rattle.dpl_wide.proofs.Crossing.{touch-pairs}
use Rattle.dpl_wide.proofs.Sheeting.{all-touch, is-sheet}
use Rattle.dpl_wide.proofs.Tiles.{both-kinds, covers-union, many-alone}

module _ (cell : Rect) (items : List Item) where
  -- what a search passes over has no square in the cell
  passed-none : (from n m : ℕ) (e : ℕ × ℕ) → ArePassed cell Everyone items from n → from ≤ m → m < n → Nth (IsOwnEdge cell) items m e → ⊥
  passed-none from n m e passed low high (item, m_in, is, (not, edge)) = elim (passed m item low high m_in) [
    | inl apart ↦ not (subst (λ (t : Item). LiesApart cell t.rect) is apart)
    | inr out ↦ out
  ]

  -- of the items before number n the edges were added, and item n, if there is one, has a square in the cell
  pub record IsSought (base : List (ℕ × ℕ)) (n : ℕ) (edges : List (ℕ × ℕ)) : Type 0 where
    pub adds : Adds (OfFirst (Nth (IsOwnEdge cell) items) n) base edges
    pub found : (d : Item) → n < length items → ¬ IsMissed cell Everyone (get_or items n d)

  pub sought-first : (n : ℕ) (edges : List (ℕ × ℕ)) → ArePassed cell Everyone items 0 n → ((d : Item) → n < length items → ¬ IsMissed cell Everyone (get_or items n d))
      → IsSought edges n edges
  sought-first n edges passed found = record {
    adds = adds-none (Nth (IsOwnEdge cell) items) n edges (λ m e l h. passed-none 0 n m e passed (omega arith) l h);
    found = found;
  }

  here : (n : ℕ) (item : Item) → n < length items → item ≡ get_or items n item → (e : ℕ × ℕ) → IsOwnEdge cell item e ↔ Nth (IsOwnEdge cell) items n e
  here n item n_in is e = (
    λ h. (item, n_in, sym is, h),
    λ (other, m_in, same, h). subst (λ (t : Item). IsOwnEdge cell t e) (sym same ∙ (get_or_default items n other item n_in ∙ sym is)) h,
  )

  -- the edge of the found item and itself is added, and the next one is found
  pub sought-next : (n next : ℕ) (item : Item) (base old new : List (ℕ × ℕ)) → n < length items → item ≡ get_or items n item → n + 1 ≤ next
      → ArePassed cell Everyone items (n + 1) next → ((d : Item) → next < length items → ¬ IsMissed cell Everyone (get_or items next d))
      → IsSought base n old → new ≡ old ++ crossed item.owner item.owner ∷ [] → IsSought base next new
  sought-next n next item base old new n_in is on passed found before new_is =
      let not : ¬ LiesApart cell item.rect = λ apart. before.found item n_in (inl (subst (λ (t : Item). LiesApart cell t.rect) is apart)) in
      let step : Adds (IsOwnEdge cell item) old new = adds-same (λ e. e ≡ crossed item.owner item.owner) (IsOwnEdge cell item) old new
      (λ e. (λ same. (not, same), λ h. h.1)) (adds-push old new (crossed item.owner item.owner) new_is) in
      record {
        adds = adds-next (Nth (IsOwnEdge cell) items) n next base old new (omega (arith, on)) (λ m e low high h. passed-none (n + 1) next m e passed low high h) before.adds
            (adds-same (IsOwnEdge cell item) (Nth (IsOwnEdge cell) items n) old new (here n item n_in is) step);
        found = found;
      }

-- items of slabs are few
pub items-few : (slabs : List Rect) (items : List Item) → length slabs < 2 ^ 32 → AreItemsOf (alone slabs) items → All (λ (item : Item). item.owner < 2 ^ 32) items
items-few slabs items few are k d l =
    let item : Item = get_or items k d in
    let many = many-alone slabs in
    let (k_in, has) = (are item.rect item.owner).0 (item, Contains-get_or items k d l, refl, refl) in
    omega (arith, k_in, many, few)

-- each square of the layer is in some cell
pub cells-have : (slabs cells : List Rect) (side : ℕ) → 0 < side → AreTiles (alone slabs) side cells → (p : Pt) → Covers slabs p
    → (cell : Rect) × Contains cells cell × Has cell p
cells-have slabs cells side some tiles p p_in =
    let (cell, only) = squares-one_cell (alone slabs) side cells some tiles p (covers-union slabs p p_in) in
    (cell, only.listed, only.inside)

-- what sums up all posted tiles sums up the edges of all slabs that touch
pub tiles-sum : (tiles : SlabTiles) (slabs cells : List Rect) (side : ℕ) (b : Board) (j : Joined) → tiles.slabs ≡ slabs → tiles.cells ≡ cells → IsCanonical slabs → 0 < side
    → AreTiles (alone slabs) side cells → Stands (sheet_of tiles) b → AreAllPosted b → SumsPosted b j → SumsTouching slabs j
tiles-sum tiles slabs cells side b j slabs_are cells_are canonical some are stands all sums =
    let same : AreTiles (alone tiles.slabs) side tiles.cells = rw (slabs_are, cells_are) are in
    let touch = all-touch tiles (subst IsCanonical (sym slabs_are) canonical) (cells-have tiles.slabs tiles.cells side some same) in
    subst (λ (rs : List Rect). SumsTouching rs j) slabs_are (
      all_edges (sheet_of tiles),
      touch-pairs tiles.slabs (all_edges (sheet_of tiles)) touch,
      touch,
      all-posted (sheet_of tiles) b j stands all (sums (sheet_of tiles) stands),
    )

-- the edges of a tile
abbrev pub AreEdgesAt : SlabTiles → ℕ → List (ℕ × ℕ) → Type 0
AreEdgesAt tiles tile edges = IfSome (slice_get tiles.cells tile) (λ cell. (e : ℕ × ℕ) → Contains edges e ↔ Contains (edges_in tiles.slabs cell) e)

edges-at : (tiles : SlabTiles) (tile : ℕ) (edges : List (ℕ × ℕ)) → tile < length tiles.cells → AreEdgesAt tiles tile edges
    → (e : ℕ × ℕ) → Contains edges e ↔ Contains (edges_at (sheet_of tiles) tile) e
edges-at tiles tile edges below are =
    let here = slice_get-get_or tiles.cells tile no_slab below in
    rw (get_or-map (edges_in tiles.slabs) tiles.cells tile no_slab [] below)
    (subst (λ (o : Option Rect). IfSome o (λ cell. (e : ℕ × ℕ) → Contains edges e ↔ Contains (edges_in tiles.slabs cell) e)) here are)

pub tile-pairs : (tiles : SlabTiles) (tile : ℕ) (edges : List (ℕ × ℕ)) → tile < length tiles.cells → AreEdgesAt tiles tile edges → AreEdgePairs edges
tile-pairs tiles tile edges below are k d l =
    let pairs : AreEdgePairs (edges_at (sheet_of tiles) tile) = is-sheet tiles tile [] (rw (length-map tiles.cells (edges_in tiles.slabs)) below) in
    All-contains (λ (e : ℕ × ℕ). e.0 < e.1) (edges_at (sheet_of tiles) tile) (get_or edges k d) pairs
    ((edges-at tiles tile edges below are (get_or edges k d)).0 (Contains-get_or edges k d l))

-- what sums up a tile's edges sums up its list
pub tile-sums : (tiles : SlabTiles) (tile : ℕ) (edges : List (ℕ × ℕ)) (j : Joined) → tile < length tiles.cells → AreEdgesAt tiles tile edges → Sums edges j
    → Sums (edges_at (sheet_of tiles) tile) j
tile-sums tiles tile edges j below are sums =
    summary-along (graph_of edges) (graph_of (edges_at (sheet_of tiles) tile)) (same-members edges (edges_at (sheet_of tiles) tile) (edges-at tiles tile edges below are)) (summary_of j) sums

-- the edges that a tile finds in two steps
pub tile-found : (slabs : List Rect) (plan : Planned) (items : List Item) (tile : ℕ) (cell : Rect) (pairs none one two : List (ℕ × ℕ)) → IsSlabPlan slabs plan items
    → slice_get plan.cells tile ≡ Some cell → IsSolid cell → AreEdgesOf plan tile pairs → none ≡ [] → Adds (IsOwnEdgeOf cell items) none one → Adds (IsPairEdgeOf pairs) one two
    → IfSome (slice_get plan.cells tile) (λ cell. (e : ℕ × ℕ) → Contains two e ↔ Contains (edges_in slabs cell) e)
tile-found slabs plan items tile cell pairs none one two h is solid are none_is own pair =
    let listed : AreEdges (ConflictIn plan.spacing plan.parts plan.owners cell) pairs =
    subst (λ (o : Option Rect). IfSome o (λ cell. AreEdges (ConflictIn plan.spacing plan.parts plan.owners cell) pairs)) is are in
    rw is (both-kinds slabs cell h.canonical solid items h.listed pairs (rw (h.spacing, h.parts, h.owners) at listed) two
    (both-added (IsOwnEdgeOf cell items) (IsPairEdgeOf pairs) none one two two none_is own pair (λ e. (λ c. c, λ c. c))))
