-- Loops of points: the squares that a loop covers, by the signed sum over its upright edges.
use Rattle.std.specs.Prelude.{◌≡◌, ℕ, zero, suc, ◌+◌, ◌-◌, ◌≤◌, ◌⊎◌, cond, ◌&&◌, ℤ, pos, negsuc, ◌+ℤ◌, List, length, slice_index_or, unsigned_abs}
use Rattle.std.specs.List.{All, Any, Contains}
use lib.Signed.{lt_z, le_z}
use Rattle.dpl_spec_split.specs.declared.Pt.{Pt}
use Rattle.dpl_spec_split.specs.declared.Rect.{Rect}

-- What the edge from p to q adds to a square's sum: where it stands left of the square and spans its row, 1 if it goes up, and -1 if it goes down.
abbrev pub step : Pt → Pt → Pt → ℤ
step p q s = cond (le_z p.x s.x) (cond (le_z p.y s.y && lt_z s.y q.y) (pos 1) (cond (le_z q.y s.y && lt_z s.y p.y) (negsuc 0) (pos 0))) (pos 0)

-- the sum over the first n edges between the points
abbrev pub steps : List Pt → ℕ → Pt → ℤ
steps ps zero s = pos 0
steps ps (suc n) s = steps ps n s +ℤ step (slice_index_or ps n s) (slice_index_or ps (n + 1) s) s

-- the sum over all edges of the loop, the last of which leads from the last point to the first
abbrev pub winding : List Pt → Pt → ℤ
winding ps s = steps ps (length ps - 1) s +ℤ step (slice_index_or ps (length ps - 1) s) (slice_index_or ps 0 s) s

-- the squares whose sum isn't 0
abbrev pub LoopCovers : List Pt → Pt → Type 0
LoopCovers ps s = winding ps s ≡ pos 0 → ⊥

-- some of the loops has the square
abbrev pub SomeLoopCovers : List (List Pt) → Pt → Type 0
SomeLoopCovers loops s = Any (λ ps. LoopCovers ps s) loops

-- an edge parallel to an axis
abbrev pub IsLevelOrUpright : Pt → Pt → Type 0
IsLevelOrUpright p q = (p.x ≡ q.x) ⊎ (p.y ≡ q.y)

-- every edge is parallel to an axis, the closing one among them
pub record IsRectilinear (ps : List Pt) : Type 0 where
  pub between : (k : ℕ) (d : Pt) → suc k ≤ length ps - 1 → IsLevelOrUpright (slice_index_or ps k d) (slice_index_or ps (k + 1) d)
  pub closing : (d : Pt) → IsLevelOrUpright (slice_index_or ps (length ps - 1) d) (slice_index_or ps 0 d)

-- how far from 0 a coordinate of the layer may lie, in database units
abbrev pub farthest : ℕ
farthest = 1000000000

pub record IsPointWithin (bound : ℕ) (p : Pt) : Type 0 where
  pub column : unsigned_abs p.x ≤ bound
  pub row : unsigned_abs p.y ≤ bound

abbrev pub ArePointsWithin : ℕ → List Pt → Type 0
ArePointsWithin bound ps = (p : Pt) → Contains ps p → IsPointWithin bound p

abbrev pub AreLoopsWithin : ℕ → List (List Pt) → Type 0
AreLoopsWithin bound loops = All (λ ps. ArePointsWithin bound ps) loops

-- corners within bound of 0
pub record IsRectWithin (bound : ℕ) (r : Rect) : Type 0 where
  pub left : unsigned_abs r.x0 ≤ bound
  pub low : unsigned_abs r.y0 ≤ bound
  pub right : unsigned_abs r.x1 ≤ bound
  pub high : unsigned_abs r.y1 ≤ bound

abbrev pub AreRectsWithin : ℕ → List Rect → Type 0
AreRectsWithin bound rs = (r : Rect) → Contains rs r → IsRectWithin bound r
