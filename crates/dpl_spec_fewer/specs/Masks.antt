-- Masks whose colours are those with fewer stitches, where these are asked for.
use Rattle.std.specs.Prelude.{ℕ, Bool, true, false, List, length, Option, Some, None}
use Rattle.dpl_spec_split.specs.declared.Spacing.{Spacing}
use Rattle.dpl_spec_split.specs.Slabs.{AreSlabsOf}
use Rattle.dpl_spec_split.specs.Marks.{Marks, vertex, sides_by, letters_by}
use Rattle.dpl_spec_split.specs.Colours.{AreRoots, AreColours, AreStitches, on_mask}
use Rattle.dpl_spec_split.specs.Decomposition.{Cut, Masks, cut_graph}
use Rattle.dpl_spec_fewer.specs.Fewer.{AreFewerColours}

-- the vertex whose component stays as it is: where marks are asked for, the anchor of mask A
abbrev pub fixed_by : Option Marks → Option ℕ
fixed_by None = None
fixed_by (Some m) = Some 0

-- the colours of a graph's vertices; where fewer stitches are asked for, what those lead to
abbrev pub AreColoursBy : Bool → Option Marks → List ℕ → List Bool → List (ℕ × ℕ) → List Bool → Type 0
AreColoursBy false marks roots odds sides colours = AreColours roots odds sides colours
AreColoursBy true marks roots odds sides colours = AreFewerColours roots odds sides (fixed_by marks) colours

-- the masks of a cut, or those with fewer stitches; roots, odds and colours go by vertices
pub record AreMasksBy (fewer : Bool) (marks : Option Marks) (spacing : Spacing) (c : Cut) (m : Masks) : Type 0 where
  pub roots : List ℕ
  pub odds : List Bool
  pub colours : List Bool
  pub rooted : AreRoots (cut_graph marks spacing c) (vertex marks (length c.pieces)) roots odds
  pub coloured : AreColoursBy fewer marks roots odds (sides_by marks c.sides) colours
  pub a : AreSlabsOf (on_mask c.pieces c.zones c.sides (letters_by marks colours) false) m.a
  pub b : AreSlabsOf (on_mask c.pieces c.zones c.sides (letters_by marks colours) true) m.b
  pub stitches : AreStitches c.sides (letters_by marks colours) m.stitches
