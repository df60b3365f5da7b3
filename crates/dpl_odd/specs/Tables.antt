-- The least level edge of each component, and the cycles that these edges close.
use Rattle.std.specs.Prelude.{◌≡◌, ◌≢◌, ℕ, ◌+◌, ◌<◌, Option, Some, None, List, [], ◌∷◌, ◌++◌, length, slice_index, slice_index_or}
use Rattle.dpl_odd.specs.Paths.{IsLevel, IsNotAfter, IsClosed, edge_at}

-- e is the least level edge of the first so many in the component of root
pub record IsLeastAt (roots levels : List ℕ) (edges : List (ℕ × ℕ)) (n root : ℕ) (e : ℕ × ℕ) : Type 0 where
  pub member : (k : ℕ) × (k < n) × (edge_at edges k ≡ e)
  pub level : IsLevel levels e
  pub below : slice_index roots e.0 ≡ root
  pub least : (k : ℕ) → k < n → IsLevel levels (edge_at edges k) → slice_index roots (edge_at edges k).0 ≡ root → IsNotAfter roots e (edge_at edges k)

abbrev pub IsLeastBelow : List ℕ → List ℕ → List (ℕ × ℕ) → ℕ → ℕ → Option (ℕ × ℕ) → Type 0
IsLeastBelow roots levels edges n root None = (k : ℕ) → k < n → IsLevel levels (edge_at edges k) → slice_index roots (edge_at edges k).0 ≡ root → ⊥
IsLeastBelow roots levels edges n root (Some e) = IsLeastAt roots levels edges n root e

-- for each number the least level edge of the first so many in the component of which it is the least number, if there is one
pub record AreLeastLevels (roots levels : List ℕ) (edges : List (ℕ × ℕ)) (n : ℕ) (least : List (Option (ℕ × ℕ))) : Type 0 where
  pub as_many : length least ≡ length levels
  pub each : (root : ℕ) → root < length least → IsLeastBelow roots levels edges n root (slice_index_or least root None)

-- an edge between two numbers of one component and one level
pub record IsClosing (n : ℕ) (roots levels : List ℕ) (e : ℕ × ℕ) : Type 0 where
  pub first_in : e.0 < n
  pub second_in : e.1 < n
  pub apart : e.0 ≢ e.1
  pub root : slice_index roots e.0 ≡ slice_index roots e.1
  pub level : slice_index levels e.0 ≡ slice_index levels e.1

-- of the first so many numbers those with an edge, in order, and the cycles that these edges close
pub data AreClosed (levels parents : List ℕ) (least : List (Option (ℕ × ℕ))) : ℕ → List ℕ → List (List ℕ) → Type 0 where
  start : {n : ℕ} {cycles : List (List ℕ)} → n ≡ 0 → cycles ≡ [] → AreClosed levels parents least n [] cycles
  skips : {m n : ℕ} {roots : List ℕ} {cycles : List (List ℕ)} → AreClosed levels parents least m roots cycles
      → slice_index_or least m None ≡ None → n ≡ m + 1 → AreClosed levels parents least n roots cycles
  takes : {m n : ℕ} {roots : List ℕ} {cycles more : List (List ℕ)} {e : ℕ × ℕ} {cycle : List ℕ} → AreClosed levels parents least m roots cycles
      → slice_index_or least m None ≡ Some e → IsClosed levels parents e.0 e.1 cycle → n ≡ m + 1 → more ≡ cycles ++ cycle ∷ []
      → AreClosed levels parents least n (roots ++ m ∷ []) more
