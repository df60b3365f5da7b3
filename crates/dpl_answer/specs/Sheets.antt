-- The conflicts of a plan's tiles, as lists.
use Rattle.std.specs.Prelude.{ℕ, ◌+◌, ◌*◌, ◌^◌, ◌<◌, Option, Some, None, ◌∷◌, ◌++◌, ◌==◌, ◌&&◌, ◌||◌, Bool, not, nat_lt, pos, ◌+ℤ◌, ◌-ℤ◌, int_le, int_lt, unsigned_abs, List, []}
use Rattle.std.specs.Prelude.{length, map, filter, slice_index, slice_index_or, if◌then◌else◌}
use Rattle.std.specs.List.{flat_map, list_any, range_with_len}
use Rattle.dpl_spec_split.specs.declared.Spacing.{Spacing}
use Rattle.dpl_spec_split.specs.declared.Pt.{Pt}
use Rattle.dpl_spec_split.specs.declared.Rect.{Rect}
use Rattle.dpl_spec_split.specs.Squares.{gap}
use Rattle.dpl_spec_split.specs.Zones.{at}
use Rattle.dpl_tile.specs.Plans.{Planned}
use Rattle.dpl_board.specs.Sheets.{Sheet}
use Rattle.dpl_stars.specs.Sums.{AreEdgePairs}
use Rattle.dpl_answer.specs.Anchors.{moved}

-- the numbers below n
abbrev pub below : ℕ → List ℕ
below n = range_with_len 0 n

-- whether the rectangle has the square
abbrev pub is_in : Rect → Pt → Bool
is_in r p = (int_le r.x0 p.x && int_lt p.x r.x1) && (int_le r.y0 p.y && int_lt p.y r.y1)

-- the squares of a rectangle
abbrev pub squares_of : Rect → List Pt
squares_of r = filter (is_in r) (flat_map (λ j. map (λ i. at (r.x0 +ℤ pos i) (r.y0 +ℤ pos j)) (below (unsigned_abs (r.x1 -ℤ r.x0)))) (below (unsigned_abs (r.y1 -ℤ r.y0))))

abbrev pub all_squares : List Rect → List Pt
all_squares slabs = flat_map squares_of slabs

-- whether so many columns and rows between two squares are too few
abbrev pub is_few : Spacing → ℕ → ℕ → Bool
is_few spacing dx dy = nat_lt (dx * dx + dy * dy) (if dx == 0 || dy == 0 then spacing.rule * spacing.rule else spacing.corner * spacing.corner)

-- whether two squares are near
abbrev pub is_near : Spacing → Pt → Pt → Bool
is_near spacing p q = is_few spacing (gap p.x q.x) (gap p.y q.y)

-- whether some square of the first in the cell is near some square of the second
abbrev pub is_near_in : Spacing → Rect → List Rect → List Rect → Bool
is_near_in spacing cell a b = list_any (λ p. is_in cell p && list_any (λ q. is_near spacing p q) (all_squares b)) (all_squares a)

abbrev pub part_of : Planned → ℕ → List Rect
part_of plan k = slice_index_or plan.parts k []

-- whether a pair of pieces, smaller number first, is a conflict by the squares in the cell
abbrev pub is_conflict_in : Planned → Rect → ℕ × ℕ → Bool
is_conflict_in plan cell e =
    (nat_lt e.0 e.1 && not (slice_index plan.owners e.0 == slice_index plan.owners e.1))
    && (is_near_in plan.spacing cell (part_of plan e.0) (part_of plan e.1) || is_near_in plan.spacing cell (part_of plan e.1) (part_of plan e.0))

-- the pairs of numbers below n, in order
abbrev pub pairs_below : ℕ → List (ℕ × ℕ)
pairs_below n = flat_map (λ (i : ℕ). map (λ (j : ℕ). (i, j)) (below n)) (below n)

-- the conflicts by the squares in the cell
abbrev pub conflicts_in : Planned → Rect → List (ℕ × ℕ)
conflicts_in plan cell = filter (is_conflict_in plan cell) (pairs_below (length plan.parts))

-- for each tile the conflicts by the squares in its cell
abbrev pub tile_sheet : Planned → Sheet
tile_sheet plan = map (conflicts_in plan) plan.cells

-- a plan, and the edges that marks make, where marks are asked for
pub record MarkedPlan : Type 0 where
  pub plan : Planned
  pub marked : Option (List (ℕ × ℕ))

-- there is room for one tile more, and its edges have two different numbers, the smaller first
abbrev pub HasRoom : Planned → Option (List (ℕ × ℕ)) → Type 0
HasRoom plan None = Unit {0}
HasRoom plan (Some marked) = (length plan.cells + 1 < 2 ^ 32) × AreEdgePairs marked

-- edges of two different numbers, the smaller first, where there are any
abbrev pub HavePairs : Option (List (ℕ × ℕ)) → Type 0
HavePairs None = Unit {0}
HavePairs (Some edges) = AreEdgePairs edges

-- the edges of the marks are those of one tile more, the last, and the others go by vertices
abbrev pub sheet_with : Option (List (ℕ × ℕ)) → Sheet → Sheet
sheet_with None sheet = sheet
sheet_with (Some marked) sheet = map moved sheet ++ marked ∷ []

abbrev pub sheet_of : MarkedPlan → Sheet
sheet_of job = sheet_with job.marked (tile_sheet job.plan)
