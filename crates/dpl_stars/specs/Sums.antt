-- A summary as the definitions see it.
use Rattle.std.specs.Prelude.{◌≡◌, ℕ, ◌<◌, List, [], ◌∷◌, ◌++◌, map}
use Rattle.std.specs.List.{All}
use Rattle.dpl_spec_split.specs.Graphs.{graph_of}
use Rattle.dpl_spec_split.specs.Summary as summary
use Rattle.dpl_stars.specs.declared.list.Star.{Star}
use Rattle.dpl_stars.specs.declared.joined.Joined.{Joined}
use Rattle.dpl_stars.specs.declared.joined.Joined.TheVariants.{Stars, Odd}

-- each edge has two different numbers, the smaller first
abbrev pub AreEdgePairs : List (ℕ × ℕ) → Type 0
AreEdgePairs edges = All (λ e. e.0 < e.1) edges

abbrev pub row_of : Star → summary.Row
row_of s = record { vertex = s.piece; root = s.root; odd = s.odd }

abbrev pub summary_of : Joined → summary.Joined
summary_of (Stars rows) = summary.Stars (map row_of rows)
summary_of Odd = summary.Odd

-- the summary of a list of edges
abbrev pub Sums : List (ℕ × ℕ) → Joined → Type 0
Sums edges j = summary.IsSummary (graph_of edges) (summary_of j)

-- What sums up the edges of both: where one sums up some edges and the other sums up some, it sums up all of them.
abbrev pub SumsBoth : Joined → Joined → Joined → Type 0
SumsBoth j k both = (es fs : List (ℕ × ℕ)) → AreEdgePairs es → AreEdgePairs fs → Sums es j → Sums fs k → Sums (es ++ fs) both

-- The one summary of both: where one sums up some edges and the other sums up some, it is what sums up all of them.
abbrev pub IsTheSummaryOfBoth : Joined → Joined → Joined → Type 0
IsTheSummaryOfBoth j k both = (es fs : List (ℕ × ℕ)) (all : Joined) → AreEdgePairs es → AreEdgePairs fs → Sums es j → Sums fs k → Sums (es ++ fs) all → both ≡ all

-- Edges one after the other: the first sums up some first ones, the second the next ones, and so on to the last.
abbrev pub AreSummed : List (ℕ × ℕ) → List Joined → Type 0
AreSummed edges [] = edges ≡ []
AreSummed edges (j ∷ js) = (prefix rest : List (ℕ × ℕ)) × (edges ≡ prefix ++ rest) × AreEdgePairs prefix × Sums prefix j × AreSummed rest js

-- What sums up the edges of all: whatever edges these sum up, one after the other, it sums up all of them.
abbrev pub SumsAll : List Joined → Joined → Type 0
SumsAll sums all = (edges : List (ℕ × ℕ)) → AreSummed edges sums → Sums edges all

-- a list of edges has at most one summary
abbrev pub IsOneSummary : Type 0
IsOneSummary = (es : List (ℕ × ℕ)) (j k : Joined) → Sums es j → Sums es k → j ≡ k
