-- What holds while gaps are looked for from below.
use Rattle.std.specs.Prelude.{◌≡◌, ℕ, ◌<◌, ◌⊎◌, ◌↔◌, ℤ, pos, ◌-ℤ◌, ◌≤ℤ◌, ◌<ℤ◌, List, length, slice_index_or}
use Rattle.std.specs.List.{Contains}
use Rattle.dpl_shade.specs.declared.rows.Span.{Span}
use Rattle.dpl_shade.specs.Rows.{SomeRow, IsGap}

-- the first n spans end at row y or below it, and the gaps that begin below it are found
pub record IsWalked (low high : ℤ) (spans : List Span) (n : ℕ) (y : ℤ) (free : List Span) : Type 0 where
  pub from : low ≤ℤ y
  pub passed : (k : ℕ) (d : Span) → k < n → k < length spans → (slice_index_or spans k d).to ≤ℤ y
  pub bottom : (y ≡ low) ⊎ SomeRow spans (y -ℤ pos 1)
  pub found : (g : Span) → Contains free g ↔ (IsGap low high spans g × (g.from <ℤ y))
