-- Marks of the least vertices of components with an odd cycle.
use Rattle.std.specs.Prelude.{◌≡◌, ℕ, ◌<◌, ◌↔◌, Bool, true, false, List, slice_index, slice_index_or}
use Rattle.dpl_odd.specs.Paths.{IsLevel, edge_at}

-- one of the first so many edges is level, and lies in the component of root
abbrev pub HasLevelBelow : List ℕ → List ℕ → List (ℕ × ℕ) → ℕ → ℕ → Type 0
HasLevelBelow roots levels edges n root =
    (k : ℕ) × (k < n) × IsLevel levels (edge_at edges k) × (slice_index roots (edge_at edges k).0 ≡ root)

-- marked are those in whose component one of the first so many edges is level
abbrev pub AreMarks : List ℕ → List ℕ → List (ℕ × ℕ) → ℕ → List Bool → Type 0
AreMarks roots levels edges n marks = (root : ℕ) → (slice_index_or marks root false ≡ true) ↔ HasLevelBelow roots levels edges n root

-- the root of an edge is marked
abbrev pub is_marked : List ℕ → List Bool → ℕ × ℕ → Bool
is_marked roots marks e = slice_index_or marks (slice_index roots e.0) false
