-- Pieces on one of the two sides of a zone.
use Rattle.std.specs.Prelude.{◌≡◌, ℕ, ◌⊎◌, List}
use Rattle.dpl_spec_split.specs.declared.Rect.{Rect}
use Rattle.dpl_spec_split.specs.declared.Zone.{Zone}
use Rattle.dpl_sides.specs.declared.standing.Side.{Side}
use Rattle.dpl_sides.specs.declared.standing.Side.TheVariants.{Before, After}
use Rattle.dpl_sides.specs.Noted.{StandsAfterFrom, StandsBeforeFrom}

-- a slab has a corner that is one of the zone's on that side
abbrev pub SlabStands : Side → Rect → Rect → Type 0
SlabStands Before zone slab = ((slab.x1 ≡ zone.x0) × (slab.y0 ≡ zone.y0)) ⊎ ((slab.x0 ≡ zone.x0) × (slab.y1 ≡ zone.y0))
SlabStands After zone slab = ((slab.x0 ≡ zone.x1) × (slab.y0 ≡ zone.y0)) ⊎ ((slab.x0 ≡ zone.x0) × (slab.y0 ≡ zone.y1))

-- part number k, which is one from a number on, stands on that side of the zone
abbrev pub StandsFrom : Side → List (List Rect) → ℕ → Zone → ℕ → Type 0
StandsFrom Before parts from z k = StandsBeforeFrom parts from z k
StandsFrom After parts from z k = StandsAfterFrom parts from z k
