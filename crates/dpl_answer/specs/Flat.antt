-- The decomposition of a layer, as a certificate tells it.
use Rattle.std.specs.Prelude.{Option, Some, None, ◌≡◌, ◌≤◌, ℕ, Bool, List, length, map}
use Rattle.std.specs.List.{zip}
use Rattle.dpl_spec_split.specs.declared.Spacing.{Spacing}
use Rattle.dpl_spec_split.specs.declared.Pt.{Pt}
use Rattle.dpl_spec_split.specs.declared.Rect.{Rect}
use Rattle.dpl_spec_split.specs.Squares.{Covers}
use Rattle.dpl_spec_split.specs.Marks.{Marks, letters_by}
use Rattle.dpl_spec_split.specs.Decomposition.{Cut, IsCut, Masks, cut_graph}
use Rattle.dpl_spec_fewer.specs.Masks.{AreMasksBy}
use Rattle.dpl_spec_split.specs.Summary.{HasOddCycle}
use Rattle.dpl_spec_split.specs.Cycle.{IsReported}
use Rattle.dpl_spec_split.specs.Loops.{AreRectsWithin, farthest}
use Rattle.dpl_law_verdict.specs.Own.{AreGainsBy, ShowNearest, head_of, piece_line, place_line, stitch_line}
use Rattle.dpl_cert.specs.declared.cert.Cert.TheVariants.{Masks as MasksText, Conflict as ConflictText}
use Rattle.dpl_cert.specs.Grammar.{IsCert}
use Rattle.dpl_cert.specs.declared.cert.Head.{Head}
use Rattle.dpl_cert.specs.declared.cert.Gain.{Gain}
use Rattle.dpl_cert.specs.declared.cert.PieceLine.{PieceLine}
use Rattle.dpl_cert.specs.declared.cert.StitchLine.{StitchLine}
use Rattle.dpl_cert.specs.declared.cert.PlaceLine.{PlaceLine}
use Rattle.dpl_cert.specs.declared.cert.NearLine.{NearLine}
use Rattle.dpl_answer.specs.Anchors.{AreLinksOf, place_of, vertex_of}

-- masks, and the lines of their certificate
pub record Painted : Type 0 where
  pub a : List Rect
  pub b : List Rect
  pub head : Head
  pub pieces : List PieceLine
  pub stitches : List StitchLine
  pub gains : Option (List Gain)

-- the lines of a certificate of an odd cycle
pub record Clash : Type 0 where
  pub head : Head
  pub cycle : List PlaceLine
  pub near : List NearLine

pub data Flat : Type 0 where
  Paints : Painted → Flat
  Clashes : Clash → Flat

-- for each piece of the cycle the least pair of near squares with the next one, the last with the first
pub record AreNearest (spacing : Spacing) (pieces : List (List Rect)) (cycle : List ℕ) (near : List NearLine) : Type 0 where
  pub each : length near ≡ length cycle
  pub pair : ShowNearest spacing pieces cycle near

-- for each place of the cycle what joins it to the next one: near squares, and where marks are asked for, marked ones
abbrev pub AreLinks : Option Marks → Spacing → List (List Rect) → List ℕ → List NearLine → Type 0
AreLinks None spacing pieces cycle near = AreNearest spacing pieces cycle near
AreLinks (Some m) spacing pieces cycle near = AreLinksOf m spacing pieces cycle near

-- the place of a vertex in a cycle
abbrev pub place_by : Option Marks → List Pt → ℕ → PlaceLine
place_by None keys = place_line keys
place_by (Some m) keys = λ (k : ℕ). place_of keys (vertex_of k)

-- the masks of a cut whose graph, with anchors where marks are asked for, has no odd cycle; where fewer stitches are asked for, those with
-- fewer, and the gains that are left
pub record IsPaintedCut (fewer : Bool) (marks : Option Marks) (spacing : Spacing) (overlap : ℕ) (cut : Cut) (p : Painted) : Type 0 where
  pub masks : Masks
  pub even : ¬ HasOddCycle (cut_graph marks spacing cut)
  pub are_masks : AreMasksBy fewer marks spacing cut masks
  pub gains : Option (List Gain)
  pub are_gains : AreGainsBy fewer marks spacing cut (letters_by marks are_masks.colours) gains
  pub is : p ≡ record {
    a = masks.a;
    b = masks.b;
    head = head_of spacing overlap cut;
    pieces = map piece_line
        (zip (letters_by marks are_masks.colours) cut.keys);
    stitches = map (stitch_line cut.zones cut.sides) masks.stitches;
    gains = gains;
  }

-- the reported cycle of a cut whose graph, with anchors where marks are asked for, has an odd one
pub record IsClashOfCut (marks : Option Marks) (spacing : Spacing) (overlap : ℕ) (cut : Cut) (x : Clash) : Type 0 where
  pub cycle : List ℕ
  pub odd : HasOddCycle (cut_graph marks spacing cut)
  pub reported : IsReported (cut_graph marks spacing cut) cycle
  pub nearest : AreLinks marks spacing cut.pieces cycle x.near
  pub head : x.head ≡ head_of spacing overlap cut
  pub places : x.cycle ≡ map (place_by marks cut.keys) cycle

abbrev pub IsFlatCut : Bool → Option Marks → Spacing → ℕ → Cut → Flat → Type 0
IsFlatCut fewer marks spacing overlap cut (Paints p) = IsPaintedCut fewer marks spacing overlap cut p
IsFlatCut fewer marks spacing overlap cut (Clashes x) = IsClashOfCut marks spacing overlap cut x

-- the decomposition of a layer, by its features, zones and pieces
abbrev pub IsFlat : Bool → Option Marks → Spacing → ℕ → List Rect → Flat → Type 0
IsFlat fewer marks spacing overlap layer flat = (cut : Cut) × IsCut marks spacing overlap (Covers layer) cut × IsFlatCut fewer marks spacing overlap cut flat

-- masks whose slabs lie within the range of a layer
abbrev pub ArePaintedWithin : Painted → Type 0
ArePaintedWithin p = AreRectsWithin farthest p.a × AreRectsWithin farthest p.b

abbrev pub IsWithin : Flat → Type 0
IsWithin (Paints p) = ArePaintedWithin p
IsWithin (Clashes x) = Unit {0}

-- lines within the grammar of certificates, and slabs within the range of a layer
pub record FitsPainted (p : Painted) : Type 0 where
  pub a : AreRectsWithin farthest p.a
  pub b : AreRectsWithin farthest p.b
  pub cert : IsCert (MasksText p.head p.pieces p.stitches p.gains)

abbrev pub FitsClash : Clash → Type 0
FitsClash x = IsCert (ConflictText x.head x.cycle x.near)

abbrev pub Fits : Flat → Type 0
Fits (Paints p) = FitsPainted p
Fits (Clashes x) = FitsClash x

-- how many workers there may be
abbrev pub AreWorkers : ℕ → Type 0
AreWorkers n = (1 ≤ n) × (n ≤ 64)

-- the side of a tile
abbrev pub IsTile : ℕ → Type 0
IsTile n = (1 ≤ n) × (n ≤ 1073741824)
