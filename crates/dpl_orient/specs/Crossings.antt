-- Stitch zones between two components.
use Rattle.std.specs.Prelude.{◌≡◌, ℕ, ◌<◌, ◌≤◌, Bool, true, false, not, ◌&&◌, ◌==◌, nat_lt, List, [], ◌∷◌, length, slice_index_or, count_by, map, if◌then◌else◌}
use Rattle.std.specs.List.{All, flat_map}
use Rattle.std.specs.List.Sorted.{IsNonDecreasingBy}
use Rattle.dpl_spec_split.specs.Colours.{differ}
use Rattle.dpl_orient.specs.declared.chart.Rooted.{Rooted}
use Rattle.dpl_orient.specs.Chart.{rooted_at}
use Rattle.dpl_orient.specs.declared.crossing.Across.{Across}
use Rattle.dpl_orient.specs.declared.crossing.Crossing.{Crossing}

abbrev pub crossing : ℕ → ℕ → Bool → Crossing
crossing later earlier odd = record { later = later; earlier = earlier; odd = odd }

-- between two pieces, the one with the higher root later
abbrev pub crossing_between : Rooted → Rooted → Crossing
crossing_between s t =
    if nat_lt t.root s.root then crossing s.root t.root (differ s.odd t.odd) else crossing t.root s.root (differ t.odd s.odd)

-- of a zone with these sides
abbrev pub crossing_of : List Rooted → ℕ × ℕ → Crossing
crossing_of chart side = crossing_between (rooted_at chart side.0) (rooted_at chart side.1)

-- whether its sides are in two components
abbrev pub is_across : List Rooted → ℕ × ℕ → Bool
is_across chart side = not ((rooted_at chart side.0).root == (rooted_at chart side.1).root)

-- of the zones with these sides
abbrev pub crossings_of : List Rooted → List (ℕ × ℕ) → List Crossing
crossings_of chart sides = flat_map (λ side. if is_across chart side then crossing_of chart side ∷ [] else []) sides

-- of the zone with this number, past the last zone that of piece 0 with itself
abbrev pub crossing_at : List Rooted → List (ℕ × ℕ) → ℕ → Crossing
crossing_at chart sides number = crossing_of chart (slice_index_or sides number (0, 0))

-- of these zones
abbrev pub crossings_at : List Rooted → List (ℕ × ℕ) → List Across → List Crossing
crossings_at chart sides across = map (λ a. crossing_at chart sides a.zone) across

-- with the later component of each
abbrev pub HaveLater : List Rooted → List (ℕ × ℕ) → List Across → Type 0
HaveLater chart sides across = All (λ a. a.later ≡ (crossing_at chart sides a.zone).later) across

abbrev pub GoUp : List Crossing → Type 0
GoUp crossings = All (λ c. c.earlier < c.later) crossings

-- in order of the later component
abbrev pub AreGrouped : List Crossing → Type 0
AreGrouped crossings = IsNonDecreasingBy (λ c. c.later) crossings

-- how many crossings of the later component have sides that differ, or agree, where it isn't flipped
abbrev pub tally : List Bool → ℕ → Bool → List Crossing → ℕ
tally flips root wanted crossings =
    count_by (λ c. c.later == root && not (differ wanted (differ c.odd (slice_index_or flips c.earlier false)))) crossings

-- whether fewer of them agree than differ
abbrev pub is_flipped_by : List Bool → ℕ → List Crossing → Bool
is_flipped_by flips root crossings = nat_lt (tally flips root false crossings) (tally flips root true crossings)

-- the crossings before place k have a later component below root, and the others don't
pub record IsSplit (crossings : List Crossing) (root k : ℕ) : Type 0 where
  pub within : k ≤ length crossings
  pub before : (i : ℕ) (d : Crossing) → i < k → (slice_index_or crossings i d).later < root
  pub after : (i : ℕ) (d : Crossing) → k ≤ i → i < length crossings → root ≤ (slice_index_or crossings i d).later

-- for each root below the length whether its component is flipped
abbrev pub AreFlips : List Crossing → List Bool → Type 0
AreFlips crossings flips = (root : ℕ) → root < length flips → slice_index_or flips root false ≡ is_flipped_by flips root crossings

-- each piece's letter
abbrev pub colours_of : List Rooted → List Bool → List Bool
colours_of chart flips = map (λ s. differ s.odd (slice_index_or flips s.root false)) chart
