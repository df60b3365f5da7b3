-- Summaries of the edges of tiles, one after the other and put together.
use Rattle.std.proofs.Common.{◌≡◌, ◌<◌, ℕ, List, [], ◌∷◌, ◌++◌, length, inl, inr, sym, refl, ap, subst, ◌∙◌, append-nil}
use Rattle.std.specs.List.{Contains}
use Rattle.std.specs.List.Sorted.{IsPermutation}
use Rattle.std.proofs.lemmas.Bool.{cases_lt}
use Rattle.std.proofs.lemmas.List.{get_or_past, map-append}
use Rattle.std.proofs.lemmas.List.Elements.{All-nil, All-append}
use Rattle.std.proofs.lemmas.List.Sorted.{Contains-permutation, IsPermutation-refl, IsPermutation-sym}
use Rattle.std.proofs.lemmas.Grind.{flat_map-append}
use Rattle.dpl_spec_split.specs.Graphs.{graph_of}
use Rattle.dpl_stars.specs.declared.joined.Joined.{Joined}
use Rattle.dpl_stars.specs.Sums.{Sums, SumsAll, SumsBoth, AreEdgePairs, AreSummed, summary_of}
use Rattle.dpl_stars.proofs.SameGraph.{same-members, summary-along}
use Rattle.dpl_board.specs.declared.entry.Entry.{Entry}
use Rattle.dpl_board.specs.Sheets.{Sheet, IsSheet, edges_at, edges_of}
use Rattle.dpl_board.specs.Summing.{AreSums, edges_in, tiles_in, tiles_of}
use Rattle.dpl_board.specs.Boards.{Board, Stands, board}
use Rattle.dpl_board.specs.Blocks.{IsWhole}
use Rattle.dpl_board.proofs.Flats.{from-flat, in-flat}

tile-pairs : (sheet : Sheet) (t : ℕ) → IsSheet sheet → AreEdgePairs (edges_at sheet t)
tile-pairs sheet t pairs = elim (cases_lt t (length sheet)) [
  | inl l ↦ pairs t [] l
  | inr past ↦ rw (get_or_past sheet t [] past) (All-nil (λ (e : ℕ × ℕ). e.0 < e.1))
]

pub edges-pairs : (sheet : Sheet) (tiles : List ℕ) → IsSheet sheet → AreEdgePairs (edges_in sheet tiles)
edges-pairs sheet [] pairs = All-nil (λ (e : ℕ × ℕ). e.0 < e.1)
edges-pairs sheet (t ∷ ts) pairs = All-append (λ (e : ℕ × ℕ). e.0 < e.1) (edges_at sheet t) (edges_in sheet ts) (tile-pairs sheet t pairs) (edges-pairs sheet ts pairs)

pub edges-append : (sheet : Sheet) (ts us : List ℕ) → edges_in sheet (ts ++ us) ≡ edges_in sheet ts ++ edges_in sheet us
edges-append sheet ts us = flat_map-append (λ (t : ℕ). edges_at sheet t) ts us

-- the edges of entries are those of their tiles
pub edges-of-tiles : (sheet : Sheet) (es : List Entry) → edges_in sheet (tiles_of es) ≡ edges_of sheet es
edges-of-tiles sheet [] = refl
edges-of-tiles sheet (e ∷ es) = ap (λ xs. edges_at sheet e.tile ++ xs) (edges-of-tiles sheet es)

-- the summaries of parts are those of their edges, one after the other
pub summed-edges : (sheet : Sheet) (parts : List (List ℕ)) (js : List Joined) → IsSheet sheet → AreSums sheet parts js
    → AreSummed (edges_in sheet (tiles_in parts)) js
summed-edges sheet [] [] pairs sums = refl
summed-edges sheet [] (j ∷ js) pairs sums = absurd sums
summed-edges sheet (p ∷ ps) [] pairs sums = absurd sums
summed-edges sheet (p ∷ ps) (j ∷ js) pairs sums = (
  edges_in sheet p,
  edges_in sheet (tiles_in ps),
  edges-append sheet p (tiles_in ps),
  edges-pairs sheet p pairs,
  sums.0,
  summed-edges sheet ps js pairs sums.1,
)

-- the same edges for the same tiles in another order
same-order : (sheet : Sheet) (ts us : List ℕ) (e : ℕ × ℕ) → IsPermutation ts us → Contains (edges_in sheet ts) e → Contains (edges_in sheet us) e
same-order sheet ts us e moved there =
    let (t, in_ts, in_t) = from-flat (λ (t : ℕ). edges_at sheet t) ts e there in
    in-flat (λ (t : ℕ). edges_at sheet t) us t e (Contains-permutation ts us t moved in_ts) in_t

pub sums-order : (sheet : Sheet) (ts us : List ℕ) (j : Joined) → IsPermutation ts us → Sums (edges_in sheet ts) j → Sums (edges_in sheet us) j
sums-order sheet ts us j moved sums =
    summary-along (graph_of (edges_in sheet ts)) (graph_of (edges_in sheet us))
    (same-members (edges_in sheet ts) (edges_in sheet us)
    (λ e. (same-order sheet ts us e moved, same-order sheet us ts e (IsPermutation-sym ts us moved)))) (summary_of j) sums

-- what sums up all parts sums up the posted tiles
pub whole-sums : (sheet : Sheet) (b : Board) (all : Joined) → Stands sheet b → SumsAll b.sums all → Sums (edges_in sheet (tiles_of b.history)) all
whole-sums sheet b all stands sums =
    sums-order sheet (tiles_in b.parts) (tiles_of b.history) all stands.posted
    (sums (edges_in sheet (tiles_in b.parts)) (summed-edges sheet b.parts b.sums stands.edges stands.sums))

-- a board of which one summary is left
pub is-whole : (old : Board) (all : Joined) → SumsAll old.sums all → IsWhole old (board old.tiles old.history (tiles_of old.history ∷ []) (all ∷ []))
is-whole old all sums = record {
  tiles = refl;
  history = refl;
  one = refl;
  stands = λ sheet stands. record {
    edges = stands.edges;
    tiles = stands.tiles;
    sums = (whole-sums sheet old all stands sums, tt);
    posted = subst (λ xs. IsPermutation xs (tiles_of old.history)) (sym (append-nil (tiles_of old.history))) (IsPermutation-refl (tiles_of old.history));
  };
}

-- the summary of one tile more
pub whole-more : (sheet : Sheet) (tiles : ℕ) (es : List Entry) (e : Entry) (joined sum both : Joined) → SumsBoth joined sum both
    → Stands sheet (board tiles es (tiles_of es ∷ []) (joined ∷ [])) → Sums (edges_at sheet e.tile) sum
    → Stands sheet (board tiles (es ++ e ∷ []) (tiles_of (es ++ e ∷ []) ∷ []) (both ∷ []))
whole-more sheet tiles es e joined sum both merged stands new =
    let old : Sums (edges_in sheet (tiles_of es)) joined = stands.sums.0 in
    let pairs : AreEdgePairs (edges_at sheet e.tile) = tile-pairs sheet e.tile stands.edges in
    let is : edges_in sheet (tiles_of (es ++ e ∷ [])) ≡ edges_in sheet (tiles_of es) ++ edges_at sheet e.tile =
    ap (edges_in sheet) (map-append (λ (e : Entry). e.tile) es (e ∷ [])) ∙ (edges-append sheet (tiles_of es) (e.tile ∷ [])
    ∙ ap (λ xs. edges_in sheet (tiles_of es) ++ xs) (append-nil (edges_at sheet e.tile))) in
    record {
      edges = stands.edges;
      tiles = stands.tiles;
      sums = (rw is (merged (edges_in sheet (tiles_of es)) (edges_at sheet e.tile) (edges-pairs sheet (tiles_of es) stands.edges) pairs old new), tt);
      posted = subst (λ xs. IsPermutation xs (tiles_of (es ++ e ∷ []))) (sym (append-nil (tiles_of (es ++ e ∷ [])))) (IsPermutation-refl (tiles_of (es ++ e ∷ [])));
    }
