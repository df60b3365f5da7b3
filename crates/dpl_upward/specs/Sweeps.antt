-- A sweep from the lowest row up, as far as it has come.
use Rattle.std.specs.Prelude.{◌≡◌, ℤ, List, []}
use Rattle.dpl_spec_split.specs.declared.Rect.{Rect}
use Rattle.dpl_upward.specs.declared.upward.Sweep.{Sweep}
use Rattle.dpl_upward.specs.Active.{AreActive}
use Rattle.dpl_upward.specs.Fronts.{AreUpTo}
use Rattle.dpl_upward.specs.Upward.{AreSweptTo}

-- no rectangle or hole was come upon yet
pub record IsUnswept (s : Sweep) : Type 0 where
  pub pieces : s.front.pieces.items ≡ []
  pub here : s.front.here.items ≡ []
  pub bars : (s.bars.begun ≡ 0) × (s.bars.rects.items ≡ [])
  pub gaps : (s.gaps.begun ≡ 0) × (s.gaps.rects.items ≡ [])

-- the rows below this one were swept: the pieces have their squares, and it is known which rectangles and holes have some of the last band
pub record IsSweptTo (row : ℤ) (rects holes : List Rect) (s : Sweep) : Type 0 where
  pub swept : AreSweptTo row rects holes s.front.pieces.items
  pub front : AreUpTo row s.front.pieces.items s.front.here.items
  pub bars : AreActive row rects s.bars.begun s.bars.rects.items
  pub gaps : AreActive row holes s.gaps.begun s.gaps.rects.items
