-- Zones with the numbers of the pieces on their two sides.
use Rattle.std.specs.Prelude.{ℕ, List, map}
use Rattle.dpl_sides.specs.declared.sided.Sided.{Sided}
use Rattle.dpl_sides.specs.declared.standing.Side.{Side}
use Rattle.dpl_sides.specs.declared.standing.Side.TheVariants.{Before, After}

-- the numbers of zones, and those of the pieces on their two sides
abbrev pub numbers_in : List Sided → List ℕ
numbers_in zones = map (λ z. z.zone) zones

abbrev pub on_side : Side → Sided → ℕ
on_side Before = λ z. z.first
on_side After = λ z. z.second

abbrev pub sides_in : Side → List Sided → List ℕ
sides_in side zones = map (on_side side) zones
