-- What is written of a decomposition lies within the bounds of what can be read.
use Rattle.std.specs.Prelude.{Option, None, ◌≡◌, ◌≤◌, ℕ, Bool, List, length, map}
use Rattle.std.specs.List.{zip}
use Rattle.dpl_spec_split.specs.declared.Spacing.{Spacing}
use Rattle.dpl_spec_split.specs.declared.Rect.{Rect}
use Rattle.dpl_spec_split.specs.Squares.{Covers}
use Rattle.dpl_spec_split.specs.Slabs.{AreSlabsOf}
use Rattle.dpl_spec_split.specs.Loops.{AreRectsWithin, farthest}
use Rattle.dpl_spec_split.specs.Marks.{Marks, letters_by}
use Rattle.dpl_spec_split.specs.Cycle.{IsReported}
use Rattle.dpl_spec_fewer.specs.Masks.{AreMasksBy}
use Rattle.dpl_spec_split.specs.Decomposition.{Cut, IsCut, Masks, AreMasks, conflicts}
use Rattle.dpl_spec_format.specs.Tree.{Library}
use Rattle.dpl_spec_layout.specs.declared.Layer.{Layer}
use Rattle.dpl_spec_layout.specs.Placements.{IsInLayer}
use Rattle.dpl_spec_layout.specs.Faults.{IsFaultless}
use Rattle.dpl_cert.specs.declared.cert.Gain.{Gain}
use Rattle.dpl_cert.specs.declared.cert.NearLine.{NearLine}
use Rattle.dpl_cert.specs.declared.cert.Cert.TheVariants.{Masks as MasksText, Conflict as ConflictText}
use Rattle.dpl_cert.specs.Grammar.{IsCert, IsRule}
use Rattle.dpl_law_verdict.specs.Own.{AreGainsBy, ShowNearest, head_of, piece_line, place_line, stitch_line}

-- the corner rule is at least 1 and not greater than the rule
abbrev pub IsCorner : Spacing → Type 0
IsCorner spacing = (1 ≤ spacing.corner) × (spacing.corner ≤ spacing.rule)

-- a layer without a fault lies within the range
abbrev pub FaultlessLayersAreWithin : Type 0
FaultlessLayersAreWithin = (lib : Library) (top : ℕ) (chosen : Layer) (layer : List Rect) → IsFaultless lib top chosen
    → AreSlabsOf (IsInLayer lib top chosen) layer → AreRectsWithin farthest layer

-- so do its masks, and the lines that tell of them are a certificate
abbrev pub OwnMasksAreWritten : Type 0
OwnMasksAreWritten = (marks : Option Marks) (spacing : Spacing) (overlap : ℕ) (layer : List Rect) (c : Cut) (m : Masks) → IsRule spacing.rule → IsCorner spacing → IsRule overlap
    → AreRectsWithin farthest layer → IsCut marks spacing overlap (Covers layer) c → (are : AreMasks marks spacing c m)
    → AreRectsWithin farthest m.a × AreRectsWithin farthest m.b
    × IsCert (MasksText (head_of spacing overlap c) (map piece_line (zip (letters_by marks are.colours) c.keys)) (map (stitch_line c.zones c.sides) m.stitches) None)

-- and so do the masks with fewer stitches, with the gains that are left
abbrev pub OwnMasksByAreWritten : Type 0
OwnMasksByAreWritten = (fewer : Bool) (marks : Option Marks) (spacing : Spacing) (overlap : ℕ) (layer : List Rect) (c : Cut) (m : Masks) (gains : Option (List Gain))
    → IsRule spacing.rule → IsCorner spacing → IsRule overlap
    → AreRectsWithin farthest layer → IsCut marks spacing overlap (Covers layer) c → (are : AreMasksBy fewer marks spacing c m)
    → AreGainsBy fewer marks spacing c (letters_by marks are.colours) gains
    → AreRectsWithin farthest m.a × AreRectsWithin farthest m.b
    × IsCert (MasksText (head_of spacing overlap c) (map piece_line (zip (letters_by marks are.colours) c.keys)) (map (stitch_line c.zones c.sides) m.stitches) gains)

-- and so are the lines of the cycle that is reported of it
abbrev pub OwnCyclesAreWritten : Type 0
OwnCyclesAreWritten = (spacing : Spacing) (overlap : ℕ) (layer : List Rect) (c : Cut) (cycle : List ℕ) (near : List NearLine) → IsRule spacing.rule
    → IsCorner spacing → IsRule overlap → AreRectsWithin farthest layer → IsCut None spacing overlap (Covers layer) c → IsReported (conflicts spacing c) cycle
    → length near ≡ length cycle → ShowNearest spacing c.pieces cycle near → IsCert (ConflictText (head_of spacing overlap c) (map (place_line c.keys) cycle) near)
