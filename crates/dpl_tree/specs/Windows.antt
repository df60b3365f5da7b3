-- Windows of a search.
use Rattle.std.specs.Prelude.{◌≡◌, ℕ, pos, ◌+ℤ◌, ◌-ℤ◌}
use Rattle.dpl_spec_split.specs.declared.Rect.{Rect}

-- the rectangle with so many columns and rows more on each side
pub record IsWidened (r : Rect) (n : ℕ) (wide : Rect) : Type 0 where
  pub left : wide.x0 ≡ r.x0 -ℤ pos n
  pub right : wide.x1 ≡ r.x1 +ℤ pos n
  pub low : wide.y0 ≡ r.y0 -ℤ pos n
  pub high : wide.y1 ≡ r.y1 +ℤ pos n
