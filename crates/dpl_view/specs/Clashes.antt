-- The odd cycles of all components of a cut's conflict graph, with what is told of each.
use Rattle.std.specs.Prelude.{◌≡◌, ℕ, List, length, map}
use Rattle.std.specs.List.{All, AllZip}
use Rattle.dpl_spec_split.specs.declared.Spacing.{Spacing}
use Rattle.dpl_spec_split.specs.Graphs.{Graph, AreEdges, IsOddCycle, IsRoot}
use Rattle.dpl_spec_split.specs.Decomposition.{Cut, conflicts}
use Rattle.dpl_stars.specs.Laws.{HasOddCycleAt}
use Rattle.dpl_law_verdict.specs.Own.{head_of, place_line}
use Rattle.dpl_odd.specs.All.{AreOddCycles}
use Rattle.dpl_answer.specs.Flat.{AreNearest}
use Rattle.dpl_answer.specs.declared.decomposed.Clash.{Clash}

-- the pieces of a cycle with their least squares, and the least pair of near squares of each with the next one
pub record IsToldOf (spacing : Spacing) (overlap : ℕ) (cut : Cut) (cycle : List ℕ) (x : Clash) : Type 0 where
  pub head : x.head ≡ head_of spacing overlap cut
  pub places : x.cycle ≡ map (place_line cut.keys) cycle
  pub nearest : AreNearest spacing cut.pieces cycle x.near

-- for each component of the conflict graph with an odd cycle, in the order of their least pieces, the cycle that is reported of it
pub record AreClashes (spacing : Spacing) (overlap : ℕ) (cut : Cut) (found : List Clash) : Type 0 where
  pub cycles : List (List ℕ)
  pub all : AreOddCycles (conflicts spacing cut) cycles
  pub odd : All (IsOddCycle (conflicts spacing cut)) cycles
  pub told : AllZip (IsToldOf spacing overlap cut) cycles found

-- two joined vertices of a component with an odd cycle
pub record IsTangled (joined : Graph) (u v : ℕ) : Type 0 where
  pub joined_by : joined u v
  pub root : ℕ
  pub rooted : IsRoot joined u root
  pub odd : HasOddCycleAt joined root

-- so many edges lie in components with an odd cycle
pub record HasTangled (joined : Graph) (count : ℕ) : Type 0 where
  pub edges : List (ℕ × ℕ)
  pub all : AreEdges (IsTangled joined) edges
  pub as_many : count ≡ length edges

-- all odd cycles of a cut's components, and how many edges these components have
pub record AreTangles (spacing : Spacing) (overlap : ℕ) (cut : Cut) (found : List Clash) (edges : ℕ) : Type 0 where
  pub clashes : AreClashes spacing overlap cut found
  pub tangled : HasTangled (conflicts spacing cut) edges
