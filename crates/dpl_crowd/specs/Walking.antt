-- A walk by levels, and the least number among some.
use Rattle.std.specs.Prelude.{◌≡◌, ℕ, ◌<◌, ◌≤◌, ◌⊎◌, ◌↔◌, Option, Some, None, List, length, slice_index}
use Rattle.std.specs.List.{Contains}
use Rattle.dpl_spec_split.specs.Graphs.{Graph, Walk, IsDistance, Precedes}
use Rattle.dpl_spec_split.specs.Cycle.{IsLevelEdge}

-- the level of a number that isn't reached
abbrev pub nowhere : ℕ
nowhere = 18446744073709551615

-- how far each number up to d edges away from root is, of the numbers below n
pub record AreLevelsTo (joined : Graph) (root n d : ℕ) (levels : List ℕ) : Type 0 where
  pub as_many : length levels ≡ n
  pub known : (v : ℕ) → v < n → slice_index levels v < nowhere → IsDistance joined root v (slice_index levels v) × (slice_index levels v ≤ d)
  pub none : (v m : ℕ) → v < n → nowhere ≤ slice_index levels v → m ≤ d → Walk joined root v m → ⊥

-- the numbers of one level
abbrev pub IsFront : ℕ → List ℕ → List ℕ → Type 0
IsFront d levels front = (v : ℕ) → Contains front v ↔ ((v < length levels) × (slice_index levels v ≡ d))

-- numbers of a kind that weren't reached are put on a level, and join those that come next
pub record Meets (Kind : ℕ → Type 0) (level : ℕ) (old new before after : List ℕ) : Type 0 where
  pub as_many : length new ≡ length old
  pub each : (v : ℕ) → (slice_index new v ≡ slice_index old v) ⊎ ((slice_index old v ≡ nowhere) × (slice_index new v ≡ level) × Kind v × (v < length old))
  pub met : (v : ℕ) → Kind v → v < length old → slice_index new v < nowhere
  pub next : (v : ℕ) → Contains after v ↔ (Contains before v ⊎ ((v < length old) × (slice_index old v ≡ nowhere) × (slice_index new v ≡ level)))

-- neighbours of some of these
abbrev pub IsBeside : Graph → List ℕ → ℕ → Type 0
IsBeside joined front v = (u : ℕ) × Contains front u × joined u v

-- the least number of a kind, if there is one
abbrev pub IsLeast : (ℕ → Type 0) → Option ℕ → Type 0
IsLeast Kind None = (w : ℕ) → Kind w → ⊥
IsLeast Kind (Some w) = Kind w × ((x : ℕ) → Kind x → w ≤ x)

-- a number from a first one on, on a level
pub record IsOn (levels : List ℕ) (from level w : ℕ) : Type 0 where
  pub late : from ≤ w
  pub on : slice_index levels w ≡ level

-- no level edge has a smaller end below at
abbrev pub ArePast : Graph → ℕ → ℕ → Type 0
ArePast joined root at = (e : ℕ × ℕ) → IsLevelEdge joined root e → at ≤ e.0

-- the least level edge of the component of number 0, with the levels of its ends
pub record IsLeastEdge (joined : Graph) (levels : List ℕ) (edge : ℕ × ℕ) : Type 0 where
  pub first_in : edge.0 < length levels
  pub second_in : edge.1 < length levels
  pub reached : slice_index levels edge.0 < nowhere
  pub level : slice_index levels edge.1 ≡ slice_index levels edge.0
  pub on : IsLevelEdge joined 0 edge
  pub least : (e : ℕ × ℕ) → IsLevelEdge joined 0 e → (edge ≡ e) ⊎ Precedes edge e
