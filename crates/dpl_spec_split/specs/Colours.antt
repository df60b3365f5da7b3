-- Colours: each component alternates from its root, and is flipped where that saves stitches.
use Rattle.std.specs.Prelude.{◌≡◌, ℕ, ◌<◌, ◌⊎◌, ◌↔◌, Bool, true, false, not, ◌&&◌, ◌||◌, ◌==◌, nat_lt, List, length, slice_index, slice_index_or, count_by, if◌then◌else◌}
use Rattle.std.specs.List.{AllPairs, Contains}
use Rattle.dpl_spec_split.specs.declared.Rect.{Rect}
use Rattle.dpl_spec_split.specs.declared.Zone.{Zone}
use Rattle.dpl_spec_split.specs.Squares.{Region, Has}
use Rattle.dpl_spec_split.specs.Zones.{part_at}
use Rattle.dpl_spec_split.specs.Graphs.{Graph}
use Rattle.dpl_spec_split.specs.Summary.{IsStar}

-- false is mask A, true is mask B
abbrev pub differ : Bool → Bool → Bool
differ a b = if a then not b else b

-- each vertex below n with its root and parity
pub record AreRoots (joined : Graph) (n : ℕ) (roots : List ℕ) (odds : List Bool) : Type 0 where
  pub lengths : (length roots ≡ n) × (length odds ≡ n)
  pub stars : (v : ℕ) → v < n → IsStar joined v (slice_index roots v) (slice_index_or odds v false)

-- u lies in the component of root, v in an earlier one
abbrev pub crosses : List ℕ → ℕ → ℕ → ℕ → Bool
crosses roots root u v = slice_index roots u == root && nat_lt (slice_index roots v) root

-- With the component of root unflipped: the zones between it and earlier components whose sides differ, or agree.
abbrev pub zones_across : List ℕ → List Bool → List Bool → ℕ → Bool → List (ℕ × ℕ) → ℕ
zones_across roots odds colours root wanted =
    count_by (λ side.
    let colour = λ (v : ℕ). slice_index_or colours v false in
    let unflipped = λ (v : ℕ). slice_index_or odds v false in
    (crosses roots root side.0 side.1 && not (differ wanted (differ (unflipped side.0) (colour side.1))))
    || (crosses roots root side.1 side.0 && not (differ wanted (differ (unflipped side.1) (colour side.0)))))

-- a component is flipped exactly where fewer zones agree than differ
abbrev pub is_flipped : List ℕ → List Bool → List Bool → List (ℕ × ℕ) → ℕ → Bool
is_flipped roots odds colours sides root =
    nat_lt (zones_across roots odds colours root false sides) (zones_across roots odds colours root true sides)

pub record AreColours (roots : List ℕ) (odds : List Bool) (sides : List (ℕ × ℕ)) (colours : List Bool) : Type 0 where
  pub each : length colours ≡ length roots
  pub colour : (v : ℕ) → v < length roots → slice_index_or colours v false ≡ differ (slice_index_or odds v false) (is_flipped roots odds colours sides (slice_index roots v))

abbrev pub colour_at : List Bool → ℕ → Bool
colour_at colours v = slice_index_or colours v false

-- a mask has the pieces of its letter, and each zone with a side of its letter
abbrev pub on_mask : List (List Rect) → List Zone → List (ℕ × ℕ) → List Bool → Bool → Region
on_mask pieces zones sides colours letter p =
    ((k : ℕ) × (k < length pieces) × (colour_at colours k ≡ letter) × part_at pieces k p)
    ⊎ ((k : ℕ) × (z : Zone) × (side : ℕ × ℕ) × (k < length zones) × (slice_index_or zones k z ≡ z) × (slice_index_or sides k side ≡ side)
    × ((colour_at colours side.0 ≡ letter) ⊎ (colour_at colours side.1 ≡ letter)) × Has z.rect p)

-- the zones whose sides differ, by number
pub record AreStitches (sides : List (ℕ × ℕ)) (colours : List Bool) (stitches : List ℕ) : Type 0 where
  pub ordered : AllPairs (λ i j. i < j) stitches
  pub exactly : (k : ℕ) → Contains stitches k ↔ ((side : ℕ × ℕ) × (k < length sides) × (slice_index_or sides k side ≡ side)
      × (differ (colour_at colours side.0) (colour_at colours side.1) ≡ true))
