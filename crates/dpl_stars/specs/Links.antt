-- Edges that stand for the rows of a summary.
use Rattle.std.specs.Prelude.{◌≡◌, ◌≢◌, ℕ, ◌<◌, ◌⊎◌, Bool, true, false, not, List, [], ◌∷◌, ◌++◌, length, slice_index}
use Rattle.std.specs.List.{All, Contains}
use Rattle.dpl_spec_split.specs.Graphs.{graph_of}
use Rattle.dpl_stars.specs.declared.list.Star.{Star}
use Rattle.dpl_stars.specs.declared.joined.Joined.{Joined}
use Rattle.dpl_stars.specs.declared.joined.Joined.TheVariants.{Stars}
use Rattle.dpl_stars.specs.Stars.{odd_row, IsStarList}
use Rattle.dpl_stars.specs.Sums.{AreEdgePairs}

abbrev pub star : ℕ → ℕ → Bool → Star
star v r odd = record { piece = v; root = r; odd = odd }

-- the edge joins these two, the smaller first
abbrev pub Joins : ℕ × ℕ → ℕ → ℕ → Type 0
Joins e a b = ((e.0 ≡ a) × (e.1 ≡ b)) ⊎ ((e.0 ≡ b) × (e.1 ≡ a))

-- at the place of the root of each odd row of the prefix stands the piece of an odd row of that root
pub record HasMates (pieces : List ℕ) (rows prefix : List Star) (mates : List ℕ) : Type 0 where
  pub each : length mates ≡ length pieces
  pub odd : (k : ℕ) (s : Star) → k < length pieces → Contains prefix s → s.odd ≡ true → slice_index pieces k ≡ s.root → Contains rows (odd_row (slice_index mates k) s.root)

-- what a row is joined to: an odd one to its root, an even one to an odd one of its root
abbrev pub IsNext : List Star → Star → ℕ → Type 0
IsNext rows row v = ((row.odd ≡ true) × (v ≡ row.root)) ⊎ ((row.odd ≡ false) × Contains rows (odd_row v row.root))

-- one root, and one is odd where the other is even
abbrev pub AreMates : List Star → ℕ → ℕ → Type 0
AreMates rows u v = (r : ℕ) × (odd : Bool) × Contains rows (star u r odd) × Contains rows (star v r (not odd))

-- what joins the row to its component
abbrev pub IsLinked : List Star → List (ℕ × ℕ) → Star → Type 0
IsLinked rows es row = row.piece ≢ row.root → (v : ℕ) × IsNext rows row v × graph_of es v row.piece

-- edges between mates that link the rows of the prefix
pub record AreLinks (rows prefix : List Star) (es : List (ℕ × ℕ)) : Type 0 where
  pub pairs : AreEdgePairs es
  pub mates : (u v : ℕ) → graph_of es u v → AreMates rows u v
  pub linked : All (IsLinked rows es) prefix

-- edges that stand for these rows come behind the old ones
abbrev pub AddsLinks : List Star → List (ℕ × ℕ) → List (ℕ × ℕ) → Type 0
AddsLinks rows old new = (more : List (ℕ × ℕ)) × IsStarList rows × AreLinks rows rows more × (new ≡ old ++ more)

-- edges that stand for the rows of these summaries, none of which has an odd cycle, one after the other
abbrev pub StandFor : List Joined → List (ℕ × ℕ) → Type 0
StandFor [] es = es ≡ []
StandFor (j ∷ js) es = (rows : List Star) × (prefix rest : List (ℕ × ℕ)) × (j ≡ Stars rows) × IsStarList rows × AreLinks rows rows prefix × (es ≡ prefix ++ rest) × StandFor js rest
