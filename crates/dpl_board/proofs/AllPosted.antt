-- Once all tiles are posted, the edges of the posted tiles are those of all tiles.
use Rattle.std.proofs.Common.{◌≡◌, ℕ, ◌<◌, List, [], length, inl, inr, sym, subst, ◌∙◌, arith}
use Rattle.std.specs.List.{Contains}
use Rattle.std.proofs.lemmas.Bool.{cases_lt}
use Rattle.std.proofs.lemmas.List.{get_or_default, get_or_past}
use Rattle.dpl_spec_split.specs.Graphs.{graph_of}
use Rattle.dpl_stars.specs.Sums.{summary_of}
use Rattle.dpl_stars.proofs.SameGraph.{same-members, summary-along}
use Rattle.dpl_board.specs.declared.entry.Entry.{Entry}
use Rattle.dpl_board.specs.Sheets.{Sheet, all_edges, edges_at, edges_of, entry}
use Rattle.dpl_board.specs.Boards.{AllPostedSumUp}
use Rattle.dpl_board.proofs.Flats.{from-flat, in-flat}
use Rattle.dpl_board.proofs.Posters.{posted-entry}

module _ (sheet : Sheet) (es : List Entry) (e : ℕ × ℕ) where
  pub posted-to-all : Contains (edges_of sheet es) e → Contains (all_edges sheet) e
  posted-to-all there =
      let (d, in_es, in_d) = from-flat (λ (d : Entry). edges_at sheet d.tile) es e there in
      elim (cases_lt d.tile (length sheet)) [
        | inl l ↦ in-flat (λ (fs : List (ℕ × ℕ)). fs) sheet (edges_at sheet d.tile) e (d.tile, l, get_or_default sheet d.tile (edges_at sheet d.tile) [] l) in_d
        | inr past ↦ (let none : Contains [] e = subst (λ (xs : List (ℕ × ℕ)). Contains xs e) (get_or_past sheet d.tile [] past) in_d in absurd (omega (arith, none.1)))
      ]

  pub all-to-posted : ((t : ℕ) → t < length sheet → (w : ℕ) × Contains es (entry w t)) → Contains (all_edges sheet) e → Contains (edges_of sheet es) e
  all-to-posted posted there =
      let (fs, (t, l, is), in_fs) = from-flat (λ (fs : List (ℕ × ℕ)). fs) sheet e there in
      let (w, in_es) = posted t l in
      let same : fs ≡ edges_at sheet t = sym is ∙ get_or_default sheet t fs [] l in
      in-flat (λ (d : Entry). edges_at sheet d.tile) es (entry w t) e in_es (rw (← same) in_fs)

pub all-posted : AllPostedSumUp
all-posted sheet b j stands all sums =
    let count = stands.tiles in
    let posted : (t : ℕ) → t < length sheet → (w : ℕ) × Contains b.history (entry w t) = λ t l. (let (w, is) = all t (rw count l) in (w, posted-entry t w b.history is)) in
    summary-along (graph_of (edges_of sheet b.history)) (graph_of (all_edges sheet))
    (same-members (edges_of sheet b.history) (all_edges sheet)
    (λ e. (posted-to-all sheet b.history e, all-to-posted sheet b.history e posted))) (summary_of j) sums
