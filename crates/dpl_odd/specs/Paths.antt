-- The least level edge, the parents, and the paths through them. Roots, levels and parents are lists by number.
use Rattle.std.specs.Prelude.{◌≡◌, ◌≢◌, ℕ, suc, ◌+◌, ◌<◌, ◌≤◌, ◌⊎◌, Option, Some, None, List, [], ◌∷◌, ◌++◌, reverse, length, slice_index, slice_index_or, slice_set}
use Rattle.dpl_spec_split.specs.Graphs.{Graph, Precedes}

-- both numbers of an edge lie on one level
abbrev pub IsLevel : List ℕ → ℕ × ℕ → Type 0
IsLevel levels e = slice_index levels e.0 ≡ slice_index levels e.1

-- e is f or comes before it: by root, then by the smaller and then by the larger number
abbrev pub IsNotAfter : List ℕ → ℕ × ℕ → ℕ × ℕ → Type 0
IsNotAfter roots e f =
    (slice_index roots e.0 < slice_index roots f.0) ⊎ ((slice_index roots e.0 ≡ slice_index roots f.0) × ((e ≡ f) ⊎ Precedes e f))

-- the least level edge so far, and then with one edge more
pub data IsLesser (roots levels : List ℕ) (e : ℕ × ℕ) : Option (ℕ × ℕ) → Option (ℕ × ℕ) → Type 0 where
  slanted : {old : Option (ℕ × ℕ)} → (IsLevel levels e → ⊥) → IsLesser roots levels e old old
  first : IsLevel levels e → IsLesser roots levels e None (Some e)
  older : {f : ℕ × ℕ} → IsLevel levels e → IsNotAfter roots f e → IsLesser roots levels e (Some f) (Some f)
  newer : {f : ℕ × ℕ} → IsLevel levels e → IsNotAfter roots e f → IsLesser roots levels e (Some f) (Some e)

abbrev pub edge_at : List (ℕ × ℕ) → ℕ → ℕ × ℕ
edge_at edges k = slice_index_or edges k (0, 0)

-- e is the least level edge of the first so many
pub record IsLeastOf (roots levels : List ℕ) (edges : List (ℕ × ℕ)) (n : ℕ) (e : ℕ × ℕ) : Type 0 where
  pub member : (k : ℕ) × (k < n) × (edge_at edges k ≡ e)
  pub level : IsLevel levels e
  pub least : (k : ℕ) → k < n → IsLevel levels (edge_at edges k) → IsNotAfter roots e (edge_at edges k)

abbrev pub IsLeastLevel : List ℕ → List ℕ → List (ℕ × ℕ) → ℕ → Option (ℕ × ℕ) → Type 0
IsLeastLevel roots levels edges n None = (k : ℕ) → k < n → IsLevel levels (edge_at edges k) → ⊥
IsLeastLevel roots levels edges n (Some e) = IsLeastOf roots levels edges n e

-- for each number the least neighbour on a lower level, or n where there is none
pub record AreLowest (joined : Graph) (n : ℕ) (levels parents : List ℕ) : Type 0 where
  pub as_many : length parents ≡ n
  pub least : (u v : ℕ) → u < n → joined u v → slice_index levels v < slice_index levels u → slice_index parents u ≤ v
  pub found : (u : ℕ) → u < n → (slice_index parents u ≡ n) ⊎ (joined u (slice_index parents u) × (slice_index levels (slice_index parents u) < slice_index levels u))

-- other is a neighbour of child: it becomes the parent if it lies on a lower level and is less than the one before
pub data IsLowered (levels : List ℕ) (child other : ℕ) (old new : List ℕ) : Type 0 where
  stays : new ≡ old → (slice_index levels other < slice_index levels child → slice_index old child ≤ other) → IsLowered levels child other old new
  falls : new ≡ slice_set old child other → slice_index levels other < slice_index levels child → other < slice_index old child → IsLowered levels child other old new

-- parents lie one level lower in the same component, and only roots have none
pub record IsForest (n : ℕ) (roots levels parents : List ℕ) : Type 0 where
  pub as_many_parents : length parents ≡ n
  pub tops : (v : ℕ) → v < n → slice_index levels v ≡ 0 → slice_index roots v ≡ v
  pub inside : (v : ℕ) → v < n → 0 < slice_index levels v → slice_index parents v < n
  pub same : (v : ℕ) → v < n → 0 < slice_index levels v → slice_index roots (slice_index parents v) ≡ slice_index roots v
  pub lower : (v : ℕ) → v < n → 0 < slice_index levels v → slice_index levels v ≡ suc (slice_index levels (slice_index parents v))

-- from a number up through parents to just below top
pub data IsPathTo (parents : List ℕ) (top : ℕ) : ℕ → List ℕ → Type 0 where
  last : {v : ℕ} → slice_index parents v ≡ top → IsPathTo parents top v (v ∷ [])
  up : {u v : ℕ} {us : List ℕ} → slice_index parents v ≡ u → IsPathTo parents top u us → IsPathTo parents top v (v ∷ us)

-- the cycle down from where the paths of u and v meet to u, and from v up again
pub record IsClosed (levels parents : List ℕ) (u v : ℕ) (cycle : List ℕ) : Type 0 where
  pub top : ℕ
  pub us : List ℕ
  pub vs : List ℕ
  pub first : IsPathTo parents top u us
  pub second : IsPathTo parents top v vs
  pub meet : length us ≡ length vs
  pub height : slice_index levels top + length us ≡ slice_index levels u
  pub apart : (k : ℕ) → k < length us → slice_index us k ≢ slice_index vs k
  pub is : cycle ≡ top ∷ reverse us ++ vs
