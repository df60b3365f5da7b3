-- What is checked of the lines of gains.
use Rattle.std.specs.Prelude.{Option, Some, None, ◌≡◌, ◌≢◌, ℕ, ◌+◌, ◌<◌, ◌⊎◌, ◌↔◌, Bool, true, false, List, length, map, slice_get, slice_index}
use Rattle.std.specs.List.{AllPairs, Contains}
use Rattle.dpl_spec_split.specs.declared.Spacing.{Spacing}
use Rattle.dpl_spec_split.specs.declared.Rect.{Rect}
use Rattle.dpl_spec_split.specs.Squares.{Covers}
use Rattle.dpl_spec_split.specs.Zones.{part_at}
use Rattle.dpl_spec_split.specs.Graphs.{IsRoot}
use Rattle.dpl_spec_split.specs.Pieces.{Conflict}
use Rattle.dpl_spec_split.specs.Marks.{Marks, marked_by, HasSome}
use Rattle.dpl_spec_split.specs.Decomposition.{Cut, IsCut}
use Rattle.dpl_spec_fewer.specs.Fewer.{zones_out}
use Rattle.dpl_cert.specs.declared.cert.Head.{Head}
use Rattle.dpl_cert.specs.declared.cert.PieceLine.{PieceLine}
use Rattle.dpl_cert.specs.declared.cert.Gain.{Gain}
use Rattle.dpl_spec_verdict.specs.declared.Verdict.{Verdict}
use Rattle.dpl_spec_verdict.specs.declared.Verdict.TheVariants.{Gain as GainAt}
use Rattle.dpl_spec_verdict.specs.Order.{FirstOf, IsValid}

-- the letters of the piece lines
abbrev pub letters : List PieceLine → List Bool
letters pieces = map (λ (line : PieceLine). line.b) pieces

-- no piece of the component is marked; roots has the root of each piece
abbrev pub IsUnmarked : Option Marks → List (List Rect) → List ℕ → ℕ → Type 0
IsUnmarked marks pieces roots root = (k : ℕ) → k < length pieces → slice_index roots k ≡ root → ¬ HasSome (part_at pieces k) (marked_by marks)

-- A component of conflicts without a marked piece, by its least piece: how many of its zones to other components have differing letters on
-- their two sides, and how many have equal ones, and that there are any. Marked pieces are in one component with the anchors, which has no line.
pub record IsGainOf (marks : Option Marks) (pieces : List (List Rect)) (sides : List (ℕ × ℕ)) (roots : List ℕ) (colours : List Bool) (g : Gain) : Type 0 where
  pub within : g.piece < length pieces
  pub least : slice_index roots g.piece ≡ g.piece
  pub free : IsUnmarked marks pieces roots g.piece
  pub d : g.d ≡ zones_out roots colours g.piece true sides
  pub s : g.s ≡ zones_out roots colours g.piece false sides
  pub some : 0 < g.d + g.s

-- the root of each piece, by the conflicts
pub record AreRootsOf (spacing : Spacing) (pieces : List (List Rect)) (owners : List ℕ) (roots : List ℕ) : Type 0 where
  pub each : length roots ≡ length pieces
  pub rooted : (v : ℕ) → v < length pieces → IsRoot (Conflict spacing pieces owners) v (slice_index roots v)

-- the gains of all components that have some, by rising piece
pub record AreGainsOf (marks : Option Marks) (spacing : Spacing) (cut : Cut) (colours : List Bool) (gains : List Gain) : Type 0 where
  pub roots : List ℕ
  pub are_roots : AreRootsOf spacing cut.pieces cut.owners roots
  pub ordered : AllPairs (λ (g h : Gain). g.piece < h.piece) gains
  pub exactly : (g : Gain) → Contains gains g ↔ IsGainOf marks cut.pieces cut.sides roots colours g

-- the line at this place isn't the gain at this place, or there is only one of the two, or the flip of its component leaves fewer stitches
abbrev pub IsBadGain : List Gain → List Gain → ℕ → Type 0
IsBadGain found lines k = (slice_get lines k ≢ slice_get found k) ⊎ ((g : Gain) × (slice_get lines k ≡ Some g) × (g.s < g.d))

pub record IsFirstBadGain (found lines : List Gain) (k : ℕ) : Type 0 where
  pub is : IsBadGain found lines k
  pub first : (j : ℕ) → j < k → ¬ IsBadGain found lines j

abbrev pub HasBadGain : List Gain → List Gain → Type 0
HasBadGain found lines = (k : ℕ) × IsBadGain found lines k

abbrev pub ShowsGain : List Gain → List Gain → Verdict → Type 0
ShowsGain found lines v = (k : ℕ) × IsFirstBadGain found lines k × (v ≡ GainAt k)

-- the certificate counts other pieces or zones
abbrev pub HasOtherPieces : Cut → Head → Type 0
HasOtherPieces cut head = (length cut.pieces ≢ head.pieces) ⊎ (length cut.zones ≢ head.zones)

abbrev pub ShowsOtherPieces : Verdict → Type 0
ShowsOtherPieces v = v ≡ GainAt 0

abbrev pub VerdictOfLines : Option Marks → Spacing → Cut → List Bool → List Gain → Verdict → Type 0
VerdictOfLines marks spacing cut colours lines v =
    (found : List Gain) × AreGainsOf marks spacing cut colours found × FirstOf (HasBadGain found lines) (ShowsGain found lines) IsValid v

-- by the pieces and zones of the layer; without lines of gains nothing is broken
abbrev pub VerdictOfGains : Option Marks → Spacing → ℕ → List Rect → Head → List Bool → Option (List Gain) → Verdict → Type 0
VerdictOfGains marks spacing overlap layer head colours None v = IsValid v
VerdictOfGains marks spacing overlap layer head colours (Some lines) v = (cut : Cut) × IsCut marks spacing overlap (Covers layer) cut
    × FirstOf (HasOtherPieces cut head) ShowsOtherPieces (VerdictOfLines marks spacing cut colours lines) v
