-- The graph by which workers find features. Slab k has the numbers 2k and 2k + 1. An edge joins the even number of a slab and the odd number of a slab that it touches, as it
-- does itself.
use Rattle.std.specs.Prelude.{◌≡◌, ◌↔◌, ℕ, ◌+◌, ◌*◌, ◌/◌, ◌<◌, nat_lt, if◌then◌else◌, pos, List, [], ◌∷◌, length, map, slice_index, slice_index_or}
use Rattle.std.specs.List.{Contains}
use Rattle.dpl_spec_split.specs.declared.Rect.{Rect}
use Rattle.dpl_spec_split.specs.Squares.{AreTouching, Has}
use Rattle.dpl_spec_split.specs.Graphs.{IsRoot, graph_of}
use Rattle.dpl_stars.specs.declared.joined.Joined.{Joined}
use Rattle.dpl_stars.specs.Sums.{AreEdgePairs, Sums}

-- each slab as a set by itself
abbrev pub alone : List Rect → List (List Rect)
alone slabs = map (λ (r : Rect). r ∷ []) slabs

abbrev pub no_slab : Rect
no_slab = record { x0 = pos 0; y0 = pos 0; x1 = pos 0; y1 = pos 0 }

abbrev pub slab_at : List Rect → ℕ → Rect
slab_at slabs k = slice_index_or slabs k no_slab

-- the edge of the even number of slab i and the odd number of slab j, the smaller number first
abbrev pub crossed : ℕ → ℕ → ℕ × ℕ
crossed i j = if nat_lt j i then (2 * j + 1, 2 * i) else (2 * i, 2 * j + 1)

-- slabs i and j, which may be one, have squares that touch
pub record SlabsTouch (slabs : List Rect) (i j : ℕ) : Type 0 where
  pub first : i < length slabs
  pub second : j < length slabs
  pub touching : AreTouching (Has (slab_at slabs i)) (Has (slab_at slabs j))

-- the edges of all slabs that touch, and no others
abbrev pub AreTouchEdges : List Rect → List (ℕ × ℕ) → Type 0
AreTouchEdges slabs edges = (e : ℕ × ℕ) → Contains edges e ↔ ((i j : ℕ) × SlabsTouch slabs i j × (e ≡ crossed i j))

-- what sums up these edges
abbrev pub SumsTouching : List Rect → Joined → Type 0
SumsTouching slabs joined = (edges : List (ℕ × ℕ)) × AreEdgePairs edges × AreTouchEdges slabs edges × Sums edges joined

-- the slab that has the least number of slab k's component
abbrev pub IsParent : List (ℕ × ℕ) → ℕ → ℕ → Type 0
IsParent edges k parent = (root : ℕ) × IsRoot (graph_of edges) (2 * k) root × (parent ≡ root / 2)

-- for each of the first n slabs that slab
pub record AreParents (edges : List (ℕ × ℕ)) (n : ℕ) (parents : List ℕ) : Type 0 where
  pub each : length parents ≡ n
  pub parent : (k : ℕ) → k < n → IsParent edges k (slice_index parents k)
