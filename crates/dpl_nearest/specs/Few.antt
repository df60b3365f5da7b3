-- The search pair by pair.
use Rattle.std.specs.Prelude.{◌≡◌, ◌≤◌, ◌⊎◌, ℕ, ℤ, ◌≤ℤ◌, Option, Some, None}
use Rattle.dpl_spec_split.specs.declared.Pt.{Pt}
use Rattle.dpl_spec_split.specs.Squares.{Precedes, gap}
use Rattle.dpl_base.specs.Spans.{InSpan}

-- at most so many columns lie between column i and one of the columns b0 to b1 - 1
abbrev pub IsWithin : ℤ → ℤ → ℕ → ℤ → Type 0
IsWithin b0 b1 most i = (j : ℤ) × InSpan b0 b1 j × (gap i j ≤ most)

-- the first such column of the columns a0 to a1 - 1
abbrev pub IsFirstWithin : ℤ → ℤ → ℤ → ℤ → ℕ → Option ℤ → Type 0
IsFirstWithin a0 a1 b0 b1 most None = (i : ℤ) → InSpan a0 a1 i → ¬ IsWithin b0 b1 most i
IsFirstWithin a0 a1 b0 b1 most (Some i) = InSpan a0 a1 i × IsWithin b0 b1 most i
    × ((k : ℤ) → InSpan a0 a1 k → IsWithin b0 b1 most k → i ≤ℤ k)

-- the first of two squares, if there is one
abbrev pub IsFirstOf : Option Pt → Option Pt → Option Pt → Type 0
IsFirstOf None q found = found ≡ q
IsFirstOf (Some p) None found = found ≡ Some p
IsFirstOf (Some p) (Some q) None = ⊥
IsFirstOf (Some p) (Some q) (Some n) = ((n ≡ p) × (Precedes q p → ⊥)) ⊎ ((n ≡ q) × Precedes q p)
