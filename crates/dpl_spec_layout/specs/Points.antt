-- How many points of a layer a layout places.
use Rattle.std.specs.Prelude.{ℕ, zero, suc, ◌+◌, ◌*◌, length, sum_by, Option, Some, None}
use Rattle.dpl_spec_format.specs.Tree.{Library, Element, elements_at}
use Rattle.dpl_spec_layout.specs.declared.Layer.{Layer}
use Rattle.dpl_spec_layout.specs.Elements.{point_count, columns_of, rows_of}
use Rattle.dpl_spec_layout.specs.Structures.{target_of}

-- how many points the layer may have in all its placements
abbrev pub most_points : ℕ
most_points = 16777216

abbrev pub points_at : (ℕ → ℕ) → Option ℕ → ℕ
points_at below None = 0
points_at below (Some j) = below j

-- what an element places: its own points, and for each copy of a reference what the structure there places
abbrev pub points_by : Library → Layer → (ℕ → ℕ) → Element → ℕ
points_by lib layer below e = point_count layer e.body + columns_of e.body * rows_of e.body * points_at below (target_of lib e)

-- how many points structure k places by itself and through at most n references, one below the other
abbrev pub points_through : Library → Layer → ℕ → ℕ → ℕ
points_through lib layer zero k = sum_by (λ (e : Element). point_count layer e.body) (elements_at lib k)
points_through lib layer (suc n) k = sum_by (points_by lib layer (points_through lib layer n)) (elements_at lib k)

-- How many points of the layer a layout without recursion places: no more references stand one below the other than there are structures.
abbrev pub placed_points : Library → Layer → ℕ → ℕ
placed_points lib layer top = points_through lib layer (length lib.structures) top
