-- Lists of rectangles in order.
use Rattle.std.specs.Prelude.{◌≡◌, ℕ, ◌<◌, ◌≤◌, ◌⊎◌, ◌≤ℤ◌, ◌<ℤ◌, List, length, slice_index_or}
use Rattle.dpl_spec_split.specs.declared.Rect.{Rect}

-- by columns, and of the same columns the lowest first
abbrev pub ColumnsBefore : Rect → Rect → Type 0
ColumnsBefore a b = (a.x0 <ℤ b.x0) ⊎ ((a.x0 ≡ b.x0) × ((a.x1 <ℤ b.x1) ⊎ ((a.x1 ≡ b.x1) × (a.y0 ≤ℤ b.y0))))

abbrev pub ColumnsRise : List Rect → Type 0
ColumnsRise rs = (i j : ℕ) (d : Rect) → i ≤ j → j < length rs → ColumnsBefore (slice_index_or rs i d) (slice_index_or rs j d)

abbrev pub CornerBefore : Rect → Rect → Type 0
CornerBefore a b = (a.y0 <ℤ b.y0) ⊎ ((a.y0 ≡ b.y0) × (a.x0 ≤ℤ b.x0))

abbrev pub CornersRise : List Rect → Type 0
CornersRise rs = (i j : ℕ) (d : Rect) → i ≤ j → j < length rs → CornerBefore (slice_index_or rs i d) (slice_index_or rs j d)
