-- Pieces in a list, and zones by their numbers.
use Rattle.std.specs.Prelude.{ℕ, ℤ, pos, List, [], ◌∷◌, map, slice_index_or}
use Rattle.std.specs.List.Sorted.{IsSortedByKey}
use Rattle.dpl_spec_split.specs.declared.Rect.{Rect}
use Rattle.dpl_spec_split.specs.declared.Zone.{Zone}
use Rattle.dpl_sides.specs.declared.piece.Origin.TheVariants.{Whole}
use Rattle.dpl_sides.specs.declared.piece.Piece.{Piece}
use Rattle.dpl_sides.specs.Corners.{row_cmp}

abbrev pub parts_in : List Piece → List (List Rect)
parts_in pieces = map (λ x. x.part) pieces

-- a zone of no size
abbrev pub no_zone : Zone
no_zone = record { rect = record { x0 = pos 0; y0 = pos 0; x1 = pos 0; y1 = pos 0 }; feature = 0 }

-- the zone of a number, or one of no size past the end
abbrev pub zone_at : List Zone → ℕ → Zone
zone_at zones j = slice_index_or zones j no_zone

abbrev pub rect_at : List Zone → ℕ → Rect
rect_at zones j = (zone_at zones j).rect

-- the row and the column of the first slab's lower left corner
abbrev pub least_key : List Rect → ℤ × ℤ
least_key [] = (pos 0, pos 0)
least_key (r ∷ rs) = (r.y0, r.x0)

abbrev pub RiseByLeast : List Piece → Type 0
RiseByLeast pieces = IsSortedByKey (λ x. least_key x.part) row_cmp pieces

-- feature number k as one piece
abbrev pub whole_piece : ℕ → List Rect → Piece
whole_piece k part = record { part = part; owner = k; origin = Whole; number = 0 }
