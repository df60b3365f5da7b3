-- A step of a search: marks that were set, and vertices that were noted to be gone on from.
use Rattle.std.specs.Prelude.{◌≡◌, ℕ, ◌+◌, ◌⊎◌, Bool, not, List, length, count_by}
use Rattle.std.specs.List.{Contains}
use Rattle.dpl_links.specs.Graph.{IsMarked}

-- how many marks aren't set
abbrev pub unmarked : List Bool → ℕ
unmarked marks = count_by not marks

-- The vertices of which P holds were marked, and those that weren't marked before were noted.
pub record Marks (P : ℕ → Type 0) (old new : List Bool) (before after : List ℕ) : Type 0 where
  pub each : length new ≡ length old
  pub keeps : (k : ℕ) → IsMarked old k → IsMarked new k
  pub sets : (k : ℕ) → P k → IsMarked new k
  pub alone : (k : ℕ) → IsMarked new k → IsMarked old k ⊎ P k
  pub keeps_notes : (k : ℕ) → Contains before k → Contains after k
  pub notes : (k : ℕ) → IsMarked new k → IsMarked old k ⊎ Contains after k
  pub notes_alone : (k : ℕ) → Contains after k → Contains before k ⊎ IsMarked new k
  pub work : unmarked new + length after ≡ unmarked old + length before
