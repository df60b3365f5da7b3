-- Path types and extensions.
use Rattle.std.specs.Prelude.{◌≡◌, ◌⊎◌, ℤ, pos, ◌<ℤ◌}

abbrev pub IsKnownType : ℤ → Type 0
IsKnownType kind = (kind ≡ pos 0) ⊎ ((kind ≡ pos 2) ⊎ (kind ≡ pos 4))

abbrev pub IsUnknownType : ℤ → Type 0
IsUnknownType kind = (kind ≡ pos 0 → ⊥) × (kind ≡ pos 2 → ⊥) × (kind ≡ pos 4 → ⊥)

-- an extension that counts is negative
abbrev pub HasNegativeEnd : ℤ → ℤ → ℤ → Type 0
HasNegativeEnd kind begin_ext end_ext = (kind ≡ pos 4) × ((begin_ext <ℤ pos 0) ⊎ (end_ext <ℤ pos 0))
