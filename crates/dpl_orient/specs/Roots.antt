-- The least piece of each piece's component, by a summary.
use Rattle.std.specs.Prelude.{ℕ, Bool, List}
use Rattle.dpl_spec_split.specs.Graphs.{graph_of}
use Rattle.dpl_spec_split.specs.Colours.{AreRoots}
use Rattle.dpl_stars.specs.declared.list.Star.{Star}
use Rattle.dpl_stars.specs.declared.joined.Joined.{Joined}
use Rattle.dpl_stars.specs.Sums.{Sums}
use Rattle.dpl_orient.specs.Rooted.{AreRooted}

-- the roots of the pieces below n, by these rows
abbrev pub AreRootsOfRows : List Star → ℕ → List ℕ → Type 0
AreRootsOfRows rows n roots = (odds : List Bool) × AreRooted rows n roots odds

-- those of the graph of each edge list that this sums up
abbrev pub RootsWhatSums : Joined → ℕ → List ℕ → Type 0
RootsWhatSums joined n roots = (edges : List (ℕ × ℕ)) → Sums edges joined → (odds : List Bool) × AreRoots (graph_of edges) n roots odds
