-- The conflicts of a plan are those of the cut that it was made of.
use Rattle.std.proofs.Common.{◌<◌, ◌≤◌, ◌∙◌, ℕ, inl, inr, List, length, length-take, take, get_or, sym, subst, arith}
use Rattle.std.specs.Prelude.{Option}
use Rattle.std.specs.List.{Contains}
use Rattle.std.proofs.lemmas.List.{get_or-take}
use Rattle.std.proofs.lemmas.List.Elements.{Contains-get_or}
use Rattle.dpl_spec_split.specs.declared.Spacing.{Spacing}
use Rattle.dpl_spec_split.specs.declared.Rect.{Rect}
use Rattle.dpl_spec_split.specs.Graphs.{AreEdges, graph_of}
use Rattle.dpl_spec_split.specs.Summary.{HasOddCycle}
use Rattle.dpl_spec_split.specs.Marks.{Marks, vertex}
use Rattle.dpl_spec_split.specs.Decomposition.{Cut, cut_graph}
use Rattle.dpl_stars.specs.Levels.{AreEdgesBelow}
use Rattle.dpl_stars.specs.declared.list.Star.{Star}
use Rattle.dpl_stars.specs.Sums.{Sums}
use Rattle.dpl_stars.specs.declared.joined.Joined.TheVariants.{Stars, Odd}
use Rattle.dpl_orient.specs.Rooted.{ArePiecesBelow}
use Rattle.dpl_orient.specs.Oriented.{IsEvenBelow}
use Rattle.dpl_piece.specs.Cutting.{BareCut, Completes, CutPieces}
use Rattle.dpl_tile.specs.Tiles.{AreTiles}
use Rattle.dpl_tile.specs.Plans.{IsPlan, Planned}
use Rattle.dpl_answer.specs.Conflicts.{IsTiled, SumsGraph}
use Rattle.dpl_answer.specs.View.{AreAmong, AreConflictsOf}
use Rattle.dpl_answer.specs.declared.conflicts.Conflicts.{Conflicts}
use Rattle.dpl_answer.specs.declared.conflicts.Conflicts.TheVariants.{Even, Odd as OddConflicts}
use Rattle.dpl_answer.proofs.Anchoring.{graph-known}
use Rattle.dpl_answer.proofs.Deciding.{rows_below, same_edges}
use Rattle.dpl_answer.proofs.SameGraphs.{odd_same, same_back}

module _ (parts : List (List Rect)) (owners : List ℕ) (spacing : Spacing) (tile : ℕ) (plan : Planned) where
  pub tiled : 1 ≤ tile → IsPlan parts owners spacing tile plan → IsTiled plan
  tiled some is = (tile, some, subst (λ (ps : List (List Rect)). AreTiles ps tile plan.cells) (sym is.of_parts) is.tiles)

  pub conflicts_planned : (marks : Option Marks) (cs : Conflicts) → IsPlan parts owners spacing tile plan → AreConflictsOf marks plan.spacing plan.parts plan.owners cs
      → AreConflictsOf marks spacing parts owners cs
  conflicts_planned marks cs is are =
      subst (λ (os : List ℕ). AreConflictsOf marks spacing parts os cs) is.of_owners
      (subst (λ (ps : List (List Rect)). AreConflictsOf marks spacing ps plan.owners cs) is.of_parts
      (subst (λ (s : Spacing). AreConflictsOf marks s plan.parts plan.owners cs) is.of_spacing are))

-- conflicts of bare pieces are those of what they are completed to
pub conflicts_completed : (marks : Option Marks) (spacing : Spacing) (bare : BareCut) (pieces : CutPieces) (cs : Conflicts) → Completes bare pieces
    → AreConflictsOf marks spacing bare.parts bare.owners cs → AreConflictsOf marks spacing pieces.parts pieces.owners cs
conflicts_completed marks spacing bare pieces cs completed are =
    subst (λ (os : List ℕ). AreConflictsOf marks spacing pieces.parts os cs) (sym completed.owners)
    (subst (λ (ps : List (List Rect)). AreConflictsOf marks spacing ps bare.owners cs) (sym completed.parts) are)

-- edges are pairs of vertices
pub edges_below : (marks : Option Marks) (spacing : Spacing) (cut : Cut) (es : List (ℕ × ℕ)) → AreEdges (cut_graph marks spacing cut) es → AreEdgesBelow (vertex marks (length cut.pieces)) es
edges_below marks spacing cut es are k d l =
    let e = get_or es k d in
    let (less, c) = (are.exactly e.0 e.1).0 (Contains-get_or es k d l) in
    (less, graph-known marks spacing cut.pieces cut.owners e.0 e.1 c)

pub stars_below : (marks : Option Marks) (spacing : Spacing) (cut : Cut) (rows : List Star) → SumsGraph (cut_graph marks spacing cut) (Stars rows) →
    ArePiecesBelow (vertex marks (length cut.pieces)) rows
stars_below marks spacing cut rows (es, are, sums) = rows_below (vertex marks (length cut.pieces)) es rows (edges_below marks spacing cut es are) sums

-- an odd cycle of the conflicts shows in each list of them
pub odd_listed : (marks : Option Marks) (spacing : Spacing) (cut : Cut) (es : List (ℕ × ℕ)) → SumsGraph (cut_graph marks spacing cut) Odd → AreEdges
    (cut_graph marks spacing cut) es → HasOddCycle (graph_of es)
odd_listed marks spacing cut es (fs, are, odd) these =
    odd_same (cut_graph marks spacing cut) (graph_of es) (same_back (graph_of es) (cut_graph marks spacing cut) (same_edges marks spacing cut es these))
    (odd_same (graph_of fs) (cut_graph marks spacing cut) (same_edges marks spacing cut fs are) odd)

-- an odd cycle of the first so many edges is one of all
take-in : (n : ℕ) (es : List (ℕ × ℕ)) (e : ℕ × ℕ) → Contains (take n es) e → Contains es e
take-in n es e (k, k_in, is) =
    let size = length-take n es in
    let l : k < n = omega (arith, size, k_in) in
    (k, omega (arith, size, k_in), sym (get_or-take n es k e l) ∙ is)

pub odd_of_first : (n : ℕ) (es : List (ℕ × ℕ)) → HasOddCycle (graph_of (take n es)) → HasOddCycle (graph_of es)
odd_of_first n es (cycle, odd) = (
  cycle,
  record {
    three = odd.three;
    odd = odd.odd;
    different = odd.different;
    around = λ k l. elim (odd.around k l) [ inl h ↦ inl (take-in n es _ h) | inr h ↦ inr (take-in n es _ h) ];
  },
)

-- what is among all conflicts are the conflicts
pub among_all : (marks : Option Marks) (spacing : Spacing) (cut : Cut) (es : List (ℕ × ℕ)) (cs : Conflicts) → AreEdges (cut_graph marks spacing cut) es
    → AreAmong es cs → AreConflictsOf marks spacing cut.pieces cut.owners cs
among_all marks spacing cut es (Even joined) are (sums, rows, is) =
    ((es, are, sums), subst (IsEvenBelow (vertex marks (length cut.pieces))) (sym is) (stars_below marks spacing cut rows (es, are, subst (Sums es) is sums)))
among_all marks spacing cut es (OddConflicts all) are (same, odd) = (
  subst (AreEdges (cut_graph marks spacing cut)) (sym same) are,
  subst (AreEdgesBelow (vertex marks (length cut.pieces))) (sym same) (edges_below marks spacing cut es are),
  subst (λ l. HasOddCycle (graph_of l)) (sym same) odd,
)
