-- The components of pieces, from the summary of their conflicts.
use Rattle.std.proofs.Common.{◌≡◌, ◌∙◌, ℕ, List, length, arith}
use Rattle.dpl_spec_split.specs.declared.Spacing.{Spacing}
use Rattle.dpl_spec_split.specs.Graphs.{graph_of}
use Rattle.dpl_spec_split.specs.Decomposition.{Cut, conflicts}
use Rattle.dpl_stars.specs.declared.joined.Joined.{Joined}
use Rattle.dpl_orient.specs.Roots.{RootsWhatSums}
use Rattle.dpl_spec_verdict.specs.Gains.{AreRootsOf}
use Rattle.dpl_answer.specs.Conflicts.{SumsGraph}
use Rattle.dpl_answer.proofs.Deciding.{same_conflicts}
use Rattle.dpl_answer.proofs.SameGraphs.{roots_same}

-- the roots of a summary of all conflicts are those by the conflicts
pub roots-summed : (spacing : Spacing) (cut : Cut) (joined : Joined) (n : ℕ) (roots : List ℕ) → SumsGraph (conflicts spacing cut) joined → n ≡ length cut.pieces
    → RootsWhatSums joined n roots → AreRootsOf spacing cut.pieces cut.owners roots
roots-summed spacing cut joined n roots (edges, are, sums) many rooted =
    let (odds, known) = rooted edges sums in
    let here = roots_same (graph_of edges) (conflicts spacing cut) (same_conflicts spacing cut edges are) n roots odds known in
    record { each = here.lengths.0 ∙ many; rooted = λ v l. (here.stars v (omega (arith, many, l))).0 }
