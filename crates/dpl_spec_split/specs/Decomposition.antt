-- The flat decomposition of a layer.
use Rattle.std.specs.Prelude.{ℕ, Bool, true, false, List, length, Option}
use Rattle.dpl_spec_split.specs.declared.Spacing.{Spacing}
use Rattle.dpl_spec_split.specs.declared.Pt.{Pt}
use Rattle.dpl_spec_split.specs.declared.Rect.{Rect}
use Rattle.dpl_spec_split.specs.declared.Zone.{Zone}
use Rattle.dpl_spec_split.specs.Squares.{Region}
use Rattle.dpl_spec_split.specs.Slabs.{AreSlabsOf}
use Rattle.dpl_spec_split.specs.Components.{AreComponents}
use Rattle.dpl_spec_split.specs.Zones.{AreZones}
use Rattle.dpl_spec_split.specs.Pieces.{ArePieces, Conflict}
use Rattle.dpl_spec_split.specs.Graphs.{Graph}
use Rattle.dpl_spec_split.specs.Marks.{Marks, marked_by, vertex, graph, sides_by, letters_by}
use Rattle.dpl_spec_split.specs.Summary.{HasOddCycle}
use Rattle.dpl_spec_split.specs.Colours.{AreRoots, AreColours, AreStitches, on_mask}
use Rattle.dpl_spec_split.specs.Cycle.{IsReported}

-- features, zones and pieces of a layer
pub record Cut : Type 0 where
  pub features : List (List Rect)
  pub zones : List Zone
  pub pieces : List (List Rect)
  pub owners : List ℕ
  pub keys : List Pt
  pub sides : List (ℕ × ℕ)

-- the cut of a layer, some squares of which may be marked
pub record IsCut (marks : Option Marks) (spacing : Spacing) (overlap : ℕ) (layer : Region) (c : Cut) : Type 0 where
  pub features : AreComponents layer c.features
  pub zones : AreZones spacing overlap layer c.features (marked_by marks) c.zones
  pub pieces : ArePieces layer c.features c.zones c.pieces c.owners c.keys c.sides

abbrev pub conflicts : Spacing → Cut → Graph
conflicts spacing c = Conflict spacing c.pieces c.owners

pub record Masks : Type 0 where
  pub a : List Rect
  pub b : List Rect
  pub stitches : List ℕ

pub data Answer : Type 0 where
  Done : Masks → Answer
  InConflict : List ℕ → Answer

-- the graph of a cut, with anchors where marks are asked for
abbrev pub cut_graph : Option Marks → Spacing → Cut → Graph
cut_graph marks spacing c = graph marks spacing c.pieces c.owners

-- the masks of a cut; roots, odds and colours go by vertices
pub record AreMasks (marks : Option Marks) (spacing : Spacing) (c : Cut) (m : Masks) : Type 0 where
  pub roots : List ℕ
  pub odds : List Bool
  pub colours : List Bool
  pub rooted : AreRoots (cut_graph marks spacing c) (vertex marks (length c.pieces)) roots odds
  pub coloured : AreColours roots odds (sides_by marks c.sides) colours
  pub a : AreSlabsOf (on_mask c.pieces c.zones c.sides (letters_by marks colours) false) m.a
  pub b : AreSlabsOf (on_mask c.pieces c.zones c.sides (letters_by marks colours) true) m.b
  pub stitches : AreStitches c.sides (letters_by marks colours) m.stitches

-- the flat answer: masks, or, where the graph has an odd cycle, the reported one, by vertices
abbrev pub IsAnswer : Option Marks → Spacing → Cut → Answer → Type 0
IsAnswer marks spacing c (Done m) = ¬ HasOddCycle (cut_graph marks spacing c) × AreMasks marks spacing c m
IsAnswer marks spacing c (InConflict cycle) = HasOddCycle (cut_graph marks spacing c) × IsReported (cut_graph marks spacing c) cycle

abbrev pub IsDecomposition : Option Marks → Spacing → ℕ → Region → Cut → Answer → Type 0
IsDecomposition marks spacing overlap layer c answer = IsCut marks spacing overlap layer c × IsAnswer marks spacing c answer
