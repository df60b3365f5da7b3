-- What a session keeps of a window: its squares of pieces, and which of their slabs share a feature.
use Rattle.std.specs.Prelude.{◌≡◌, ℕ, ◌<◌, ◌≤◌, ◌⊎◌, List, [], ◌∷◌, length, map, slice_index, slice_index_or}
use Rattle.std.specs.List.{Contains}
use Rattle.dpl_spec_split.specs.declared.Pt.{Pt}
use Rattle.dpl_spec_split.specs.declared.Rect.{Rect}
use Rattle.dpl_spec_split.specs.declared.Zone.{Zone}
use Rattle.dpl_spec_split.specs.Squares.{Region, Covers, Has}
use Rattle.dpl_spec_split.specs.Slabs.{AreSlabsOf}
use Rattle.dpl_spec_split.specs.Components.{AreComponents}
use Rattle.dpl_spec_split.specs.Zones.{part_at}
use Rattle.dpl_spec_split.specs.Pieces.{without}
use Rattle.dpl_slabs.specs.Parts.{union_of}
use Rattle.dpl_session.specs.declared.window.Window.{Window}

-- the squares of a set in a window
abbrev pub within : Rect → Region → Region
within w a p = a p × Has w p

-- the squares of slab i
abbrev pub slab_at : List Rect → ℕ → Region
slab_at slabs i p = (r : Rect) × (i < length slabs) × (slice_index_or slabs i r ≡ r) × Has r p

-- a set of its own for each slab
abbrev pub each_alone : List Rect → List (List Rect)
each_alone slabs = map (λ r. r ∷ []) slabs

-- each slab lies in the piece of its name
pub record AreNames (pieces : List (List Rect)) (slabs : List Rect) (names : List ℕ) : Type 0 where
  pub each : length names ≡ length slabs
  pub known : (i : ℕ) → i < length slabs → slice_index names i < length pieces
  pub lies : (i : ℕ) (p : Pt) → slab_at slabs i p → part_at pieces (slice_index names i) p

-- the owner of the piece that slab i is named for
abbrev pub owner_at : List ℕ → List ℕ → ℕ → ℕ
owner_at owners names i = slice_index owners (slice_index names i)

-- k is the first number with the same owner as i
pub record IsFirstWith (owner : ℕ → ℕ) (i k : ℕ) : Type 0 where
  pub upto : k ≤ i
  pub same : owner k ≡ owner i
  pub first : (j : ℕ) → owner j ≡ owner i → k ≤ j

-- the table has, at the owner of each number below i, the first one with that owner
abbrev pub HaveFirsts : (ℕ → ℕ) → List ℕ → ℕ → Type 0
HaveFirsts owner table i = (j : ℕ) → j < i → IsFirstWith owner j (slice_index table (owner j))

-- for each of n numbers the first one with the same owner
pub record AreLabels (owner : ℕ → ℕ) (n : ℕ) (labels : List ℕ) : Type 0 where
  pub each : length labels ≡ n
  pub first : (i : ℕ) → i < n → IsFirstWith owner i (slice_index labels i)

-- the window of pieces: the slabs of their squares in it, each named for its piece and labelled with the first slab of the same owner
pub record IsWindowOf (pieces : List (List Rect)) (owners : List ℕ) (w : Rect) (x : Window) : Type 0 where
  pub slabs : AreSlabsOf (within w (union_of pieces)) x.slabs
  pub names : AreNames pieces x.slabs x.names
  pub labels : AreLabels (owner_at owners x.names) (length x.slabs) x.labels

-- the pieces that some zones leave of some layer
abbrev pub AreWhole : List (List Rect) → Type 0
AreWhole pieces = (layer : List Rect) × (zones : List Zone) × AreComponents (without (Covers layer) zones) pieces

-- the two numbers, the smaller first
abbrev pub IsEnds : ℕ → ℕ → ℕ × ℕ → Type 0
IsEnds p q e = ((p < q) × (e ≡ (p, q))) ⊎ ((q ≤ p) × (e ≡ (q, p)))

-- an edge of slabs, by their names
abbrev pub IsNamedEdge : List ℕ → List (ℕ × ℕ) → ℕ × ℕ → Type 0
IsNamedEdge names edges e = (d : ℕ × ℕ) × Contains edges d × IsEnds (slice_index names d.0) (slice_index names d.1) e
