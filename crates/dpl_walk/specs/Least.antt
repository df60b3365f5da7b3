-- The least of some offsets.
use Rattle.std.specs.Prelude.{ℕ, ◌≤◌, min, Option, Some, None}

abbrev pub earlier : Option ℕ → Option ℕ → Option ℕ
earlier None b = b
earlier (Some a) None = Some a
earlier (Some a) (Some b) = Some (min a b)

-- there is one, at this offset or before it
abbrev pub IsAtMost : Option ℕ → ℕ → Type 0
IsAtMost None at = ⊥
IsAtMost (Some first) at = first ≤ at
