-- What the masks of a layer keep.
use Rattle.std.specs.Prelude.{◌≢◌, ◌≤◌, ℕ, ◌⊎◌, ◌↔◌, Bool, true, false, pos, List, length, map, slice_index_or, Option, Some}
use Rattle.dpl_spec_split.specs.declared.Spacing.{Spacing}
use Rattle.dpl_spec_split.specs.declared.Pt.{Pt}
use Rattle.dpl_spec_split.specs.declared.Rect.{Rect}
use Rattle.dpl_spec_split.specs.declared.Zone.{Zone}
use Rattle.dpl_spec_split.specs.Squares.{Covers, Near}
use Rattle.dpl_spec_split.specs.Zones.{part_at}
use Rattle.dpl_spec_split.specs.Summary.{HasOddCycle}
use Rattle.dpl_spec_split.specs.Marks.{Marks}
use Rattle.dpl_spec_split.specs.Decomposition.{Cut, Masks, IsCut, cut_graph}
use Rattle.dpl_spec_fewer.specs.Masks.{AreMasksBy}

-- a square is on one of the masks exactly where it is in the layer
abbrev pub AreCover : List Rect → List Rect → List Rect → Type 0
AreCover layer a b = (p : Pt) → (Covers a p ⊎ Covers b p) ↔ Covers layer p

-- squares of different features on the mask are not near
abbrev pub KeepsApart : Spacing → List (List Rect) → List Rect → Type 0
KeepsApart spacing features mask = (i j : ℕ) (p q : Pt) → i ≢ j → part_at features i p → part_at features j q → Covers mask p → Covers mask q → ¬ Near spacing p q

-- a square is on both masks exactly where it is in some stitch
abbrev pub OverlapAt : List Rect → List Rect → List Rect → Type 0
OverlapAt stitches a b = (p : Pt) → (Covers a p × Covers b p) ↔ Covers stitches p

-- the rectangle of zone k
abbrev pub rect_at : List Zone → ℕ → Rect
rect_at zones k = (slice_index_or zones k (record { rect = record { x0 = pos 0; y0 = pos 0; x1 = pos 0; y1 = pos 0 }; feature = 0 })).rect

-- the rectangles of the zones with these numbers
abbrev pub rects_of : List Zone → List ℕ → List Rect
rects_of zones ks = map (rect_at zones) ks

-- masks cover their layer exactly, with fewer stitches or without
abbrev pub MasksCover : Type 0
MasksCover = (fewer : Bool) (marks : Option Marks) (spacing : Spacing) (overlap : ℕ) (layer : List Rect) (c : Cut) (m : Masks)
    → IsCut marks spacing overlap (Covers layer) c → AreMasksBy fewer marks spacing c m → AreCover layer m.a m.b

-- without an odd cycle of the graph each mask keeps features apart
abbrev pub MasksKeepApart : Type 0
MasksKeepApart = (fewer : Bool) (marks : Option Marks) (spacing : Spacing) (overlap : ℕ) (layer : List Rect) (c : Cut) (m : Masks)
    → IsCut marks spacing overlap (Covers layer) c → AreMasksBy fewer marks spacing c m → ¬ HasOddCycle (cut_graph marks spacing c)
    → KeepsApart spacing c.features m.a × KeepsApart spacing c.features m.b

-- masks overlap at their stitches alone
abbrev pub MasksOverlapAtStitches : Type 0
MasksOverlapAtStitches = (fewer : Bool) (marks : Option Marks) (spacing : Spacing) (overlap : ℕ) (layer : List Rect) (c : Cut) (m : Masks)
    → IsCut marks spacing overlap (Covers layer) c → AreMasksBy fewer marks spacing c m → OverlapAt (rects_of c.zones m.stitches) m.a m.b

-- the squares of the layer that are in the set are on this mask, and not on the other one
abbrev pub AreOnOne : List Rect → List Rect → List Rect → List Rect → Type 0
AreOnOne layer set mask other = (p : Pt) → Covers layer p → Covers set p → Covers mask p × ¬ Covers other p

-- without an odd cycle of the graph each marked square of the layer is on the mask that it is fixed to alone
abbrev pub MasksKeepMarks : Type 0
MasksKeepMarks = (fewer : Bool) (marks : Marks) (spacing : Spacing) (overlap : ℕ) (layer : List Rect) (c : Cut) (m : Masks)
    → IsCut (Some marks) spacing overlap (Covers layer) c → AreMasksBy fewer (Some marks) spacing c m
    → ¬ HasOddCycle (cut_graph (Some marks) spacing c) → AreOnOne layer marks.a m.a m.b × AreOnOne layer marks.b m.b m.a

-- the masks of a cut with fewer stitches have no more of them than those without
abbrev pub FewerAreNoMore : Type 0
FewerAreNoMore = (marks : Option Marks) (spacing : Spacing) (c : Cut) (few plain : Masks) → AreMasksBy true marks spacing c few
    → AreMasksBy false marks spacing c plain → length few.stitches ≤ length plain.stitches
