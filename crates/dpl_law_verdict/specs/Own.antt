-- The masks or the cycle of a layer's decomposition are valid.
use Rattle.std.specs.Prelude.{Option, Some, None, ℕ, ◌+◌, ◌%◌, ◌<◌, Bool, true, false, pos, List, length, map, slice_index, slice_index_or}
use Rattle.std.specs.List.{zip}
use Rattle.dpl_spec_split.specs.declared.Spacing.{Spacing}
use Rattle.dpl_spec_split.specs.declared.Pt.{Pt}
use Rattle.dpl_spec_split.specs.declared.Rect.{Rect}
use Rattle.dpl_spec_split.specs.declared.Zone.{Zone}
use Rattle.dpl_spec_split.specs.Squares.{Covers}
use Rattle.dpl_spec_split.specs.Zones.{at, part_at}
use Rattle.dpl_spec_split.specs.Summary.{HasOddCycle}
use Rattle.dpl_spec_split.specs.Cycle.{IsReported}
use Rattle.dpl_spec_split.specs.Decomposition.{Cut, IsCut, Masks, AreMasks, conflicts, cut_graph}
use Rattle.dpl_spec_split.specs.Marks.{Marks, letters_by}
use Rattle.dpl_spec_fewer.specs.Masks.{AreMasksBy}
use Rattle.dpl_nearest.specs.Nearest.{IsNearestPair}
use Rattle.dpl_cert.specs.declared.cert.Head.{Head}
use Rattle.dpl_cert.specs.declared.cert.Gain.{Gain}
use Rattle.dpl_cert.specs.declared.cert.PieceLine.{PieceLine}
use Rattle.dpl_cert.specs.declared.cert.StitchLine.{StitchLine}
use Rattle.dpl_cert.specs.declared.cert.PlaceLine.{PlaceLine}
use Rattle.dpl_cert.specs.declared.cert.PlaceLine.TheVariants.{Piece}
use Rattle.dpl_cert.specs.declared.cert.NearLine.{NearLine}
use Rattle.dpl_cert.specs.declared.cert.NearLine.TheVariants.{Pair, Mark, Anchors}
use Rattle.dpl_cert.specs.declared.cert.Cert.TheVariants.{Masks as MasksText, Conflict as ConflictText}
use Rattle.dpl_spec_verdict.specs.declared.Verdict.TheVariants.{Valid}
use Rattle.dpl_spec_verdict.specs.Masks.{IsVerdictOfMasks}
use Rattle.dpl_spec_verdict.specs.Gains.{AreGainsOf}
use Rattle.dpl_spec_verdict.specs.Conflicts.{IsVerdictOfConflict}

abbrev pub head_of : Spacing → ℕ → Cut → Head
head_of spacing overlap c = record { rule = spacing.rule; overlap = overlap; corner = spacing.corner; features = length c.features; pieces = length c.pieces; zones = length c.zones }

-- a piece's letter and least square
abbrev pub piece_line : Bool × Pt → PieceLine
piece_line p = record { b = p.0; key = p.1 }

abbrev pub no_zone : Zone
no_zone = record { rect = record { x0 = pos 0; y0 = pos 0; x1 = pos 0; y1 = pos 0 }; feature = 0 }

-- a zone, with its two sides
abbrev pub stitch_line : List Zone → List (ℕ × ℕ) → ℕ → StitchLine
stitch_line zones sides k = record { rect = (slice_index_or zones k no_zone).rect; p = (slice_index_or sides k (0, 0)).0; q = (slice_index_or sides k (0, 0)).1 }

-- a piece of the cycle, with its least square
abbrev pub place_line : List Pt → ℕ → PlaceLine
place_line keys k = Piece k (slice_index_or keys k (at (pos 0) (pos 0)))

-- a line of two squares that are so related
abbrev pub ShowsPair : (Pt → Pt → Type 0) → NearLine → Type 0
ShowsPair related (Pair p q) = related p q
ShowsPair related (Mark p) = ⊥
ShowsPair related Anchors = ⊥

-- for each piece of the cycle the least pair of near squares with the next one, the last with the first
abbrev pub ShowNearest : Spacing → List (List Rect) → List ℕ → List NearLine → Type 0
ShowNearest spacing pieces cycle near = (k : ℕ) (d : NearLine) → k < length cycle
    → ShowsPair (IsNearestPair spacing (part_at pieces (slice_index cycle k)) (part_at pieces (slice_index cycle ((k + 1) % length cycle))))
    (slice_index_or near k d)

-- without an odd cycle of conflicts nothing is wrong with the masks and the lines of their certificate
abbrev pub OwnMasksAreValid : Type 0
OwnMasksAreValid = (marks : Option Marks) (spacing : Spacing) (overlap : ℕ) (layer : List Rect) (c : Cut) (m : Masks) → IsCut marks spacing overlap
    (Covers layer) c → (are : AreMasks marks spacing c m) → ¬ HasOddCycle (cut_graph marks spacing c)
    → IsVerdictOfMasks marks spacing overlap layer m.a m.b (MasksText (head_of spacing overlap c) (map piece_line (zip (letters_by marks are.colours) c.keys))
    (map (stitch_line c.zones c.sides) m.stitches) None) Valid

-- where fewer stitches are asked for, the gains of the components by these letters; else none are told
abbrev pub AreGainsBy : Bool → Option Marks → Spacing → Cut → List Bool → Option (List Gain) → Type 0
AreGainsBy false marks spacing c letters None = Unit {0}
AreGainsBy false marks spacing c letters (Some gains) = ⊥
AreGainsBy true marks spacing c letters None = ⊥
AreGainsBy true marks spacing c letters (Some gains) = AreGainsOf marks spacing c letters gains

-- nor, where fewer stitches are asked for, with those masks and the gains that are left
abbrev pub OwnMasksByAreValid : Type 0
OwnMasksByAreValid = (fewer : Bool) (marks : Option Marks) (spacing : Spacing) (overlap : ℕ) (layer : List Rect) (c : Cut) (m : Masks) (gains : Option (List Gain))
    → IsCut marks spacing overlap (Covers layer) c → (are : AreMasksBy fewer marks spacing c m) → ¬ HasOddCycle (cut_graph marks spacing c)
    → AreGainsBy fewer marks spacing c (letters_by marks are.colours) gains
    → IsVerdictOfMasks marks spacing overlap layer m.a m.b (MasksText (head_of spacing overlap c) (map piece_line (zip (letters_by marks are.colours) c.keys))
    (map (stitch_line c.zones c.sides) m.stitches) gains) Valid

-- nothing is wrong with the reported cycle
abbrev pub OwnCyclesAreValid : Type 0
OwnCyclesAreValid = (spacing : Spacing) (overlap : ℕ) (layer : List Rect) (c : Cut) (cycle : List ℕ) (near : List NearLine)
    → IsCut None spacing overlap (Covers layer) c → IsReported (conflicts spacing c) cycle → ShowNearest spacing c.pieces cycle near
    → IsVerdictOfConflict None spacing overlap layer (ConflictText (head_of spacing overlap c) (map (place_line c.keys) cycle) near) Valid
