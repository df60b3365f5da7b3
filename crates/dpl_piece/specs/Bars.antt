-- Bars that zones cut.
use Rattle.std.specs.Prelude.{◌≡◌, ◌⊎◌, ◌<ℤ◌}
use Rattle.dpl_spec_split.specs.declared.Rect.{Rect}

-- the hole has all rows of the bar, and columns between others of the bar
pub record CutsAcross (bar hole : Rect) : Type 0 where
  pub low : hole.y0 ≡ bar.y0
  pub high : hole.y1 ≡ bar.y1
  pub left : bar.x0 <ℤ hole.x0
  pub wide : hole.x0 <ℤ hole.x1
  pub right : hole.x1 <ℤ bar.x1

-- the hole has all columns of the bar, and rows between others of the bar
pub record CutsAlong (bar hole : Rect) : Type 0 where
  pub left : hole.x0 ≡ bar.x0
  pub right : hole.x1 ≡ bar.x1
  pub low : bar.y0 <ℤ hole.y0
  pub tall : hole.y0 <ℤ hole.y1
  pub high : hole.y1 <ℤ bar.y1

-- what a hole that cuts right across a bar leaves of it on its two sides
abbrev pub AreHalves : Rect → Rect → Rect → Rect → Type 0
AreHalves bar hole before after = (CutsAcross bar hole × (before ≡ record bar { x1 = hole.x0 }) × (after ≡ record bar { x0 = hole.x1 }))
    ⊎ (CutsAlong bar hole × (before ≡ record bar { y1 = hole.y0 }) × (after ≡ record bar { y0 = hole.y1 }))
