-- Texts that are put one behind the other.
use Rattle.std.specs.Prelude.{◌≡◌, ℕ, List, ◌++◌, map, Result, Ok, String, string_bytes}
use Rattle.std.specs.Global.{Global}
use Rattle.std.specs.declared.alloc.AllocError.{AllocError}
use Rattle.std.specs.List.{concat}

-- All of them were made, and stand behind what was there before.
pub record AreParts (made : List (Result (String Global) AllocError)) (before after : List ℕ) : Type 0 where
  pub parts : List (String Global)
  pub each : made ≡ map Ok parts
  pub behind : after ≡ before ++ concat (map string_bytes parts)
