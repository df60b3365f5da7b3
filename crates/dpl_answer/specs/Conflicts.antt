-- The summary of a graph's edges, and plans whose tiles are those of their parts.
use Rattle.std.specs.Prelude.{ℕ, ◌<◌, List}
use Rattle.dpl_spec_split.specs.Graphs.{Graph, AreEdges}
use Rattle.dpl_stars.specs.declared.joined.Joined.{Joined}
use Rattle.dpl_stars.specs.Sums.{Sums}
use Rattle.dpl_tile.specs.Plans.{Planned}
use Rattle.dpl_tile.specs.Tiles.{AreTiles}

-- what sums up the edges of the graph, smaller end first, in order, each once
abbrev pub SumsGraph : Graph → Joined → Type 0
SumsGraph graph j = (edges : List (ℕ × ℕ)) × AreEdges graph edges × Sums edges j

-- the plan's tiles are those of its parts for some side
abbrev pub IsTiled : Planned → Type 0
IsTiled plan = (side : ℕ) × (0 < side) × AreTiles plan.parts side plan.cells
