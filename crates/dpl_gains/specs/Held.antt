-- Components with marked pieces.
use Rattle.std.specs.Prelude.{◌≡◌, ℕ, ◌<◌, List, slice_index}
use Rattle.dpl_spec_split.specs.declared.Rect.{Rect}
use Rattle.dpl_spec_split.specs.Squares.{Covers}
use Rattle.dpl_spec_split.specs.Zones.{part_at}
use Rattle.dpl_spec_split.specs.Marks.{HasSome}

-- one of the first n pieces is of the component, and has a square of the set
abbrev pub IsHeldBelow : List (List Rect) → List ℕ → List Rect → ℕ → ℕ → Type 0
IsHeldBelow parts roots set n root = (k : ℕ) × (k < n) × (slice_index roots k ≡ root) × HasSome (part_at parts k) (Covers set)
