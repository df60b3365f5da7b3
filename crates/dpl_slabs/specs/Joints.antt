-- Two lists of rectangles in joint strips of rows.
use Rattle.std.specs.Prelude.{◌≡◌, ℕ, ◌+◌, ◌<◌, ◌≤◌, ◌⊎◌, ◌↔◌, ℤ, ◌≤ℤ◌, ◌<ℤ◌, List, ◌++◌, length, take, drop, slice_index_or}
use Rattle.std.specs.List.{All, Contains}
use Rattle.dpl_spec_split.specs.declared.Pt.{Pt}
use Rattle.dpl_spec_split.specs.declared.Rect.{Rect}
use Rattle.dpl_spec_split.specs.Squares.{Covers}
use Rattle.dpl_spec_split.specs.Slabs.{IsSolid, IsCanonical}
use Rattle.dpl_spec_split.specs.Loops.{farthest, AreRectsWithin}
use Rattle.dpl_sweep.specs.declared.edge.Rule.{Rule}
use Rattle.dpl_slabs.specs.Cells.{Chosen}
use Rattle.dpl_slabs.specs.Strips.{LieBelow}

-- the n-th rectangle is there and begins no higher than top, and new is the higher of top and its end
pub record IsRaised (rects : List Rect) (n : ℕ) (top new : ℤ) : Type 0 where
  pub here : n < length rects
  pub begins : (d : Rect) → (slice_index_or rects n d).y0 ≤ℤ top
  pub keeps : top ≤ℤ new
  pub reaches : (d : Rect) → (slice_index_or rects n d).y1 ≤ℤ new
  pub known : (d : Rect) → (new ≡ top) ⊎ (new ≡ (slice_index_or rects n d).y1)

-- all from the n-th on begin above row top
abbrev pub BeginAbove : ℤ → ℕ → List Rect → Type 0
BeginAbove top n rects = (r : Rect) → Contains (drop n rects) r → top <ℤ r.y0

-- a row lies between the first n and m of two lists and all others of both, and where all have squares, between no fewer of them and the others
pub record IsJointStrip (first second : List Rect) (n m : ℕ) : Type 0 where
  pub some : 0 < n + m
  pub first_in : n ≤ length first
  pub second_in : m ≤ length second
  pub below : LieBelow (take n first ++ take m second) (drop n first ++ drop m second)
  pub least : All IsSolid first → All IsSolid second → (k l : ℕ) → k ≤ n → l ≤ m → 0 < k + l → k + l < n + m
      → ¬ LieBelow (take k first ++ take l second) (drop k first ++ drop l second)

-- slabs of some of the squares, and the rest of each list, which lies above
pub record AreJointsOf (rule : Rule) (first second slabs first_rest second_rest : List Rect) : Type 0 where
  pub canonical : IsCanonical slabs
  pub covers : (p : Pt) → (Covers slabs p ⊎ Chosen rule first_rest second_rest p) ↔ Chosen rule first second p
  pub within : AreRectsWithin farthest slabs
  pub rest_within : AreRectsWithin farthest (first_rest ++ second_rest)
  pub first_canonical : IsCanonical first_rest
  pub second_canonical : IsCanonical second_rest
  pub below : LieBelow slabs (first_rest ++ second_rest)
