-- Masks by letters of the vertices, wherever the letters come from.
use Rattle.std.specs.Prelude.{◌≡◌, ◌≢◌, ℕ, ◌<◌, Bool, true, false, List, length, Option, Some, None}
use Rattle.dpl_spec_split.specs.declared.Spacing.{Spacing}
use Rattle.dpl_spec_split.specs.Slabs.{AreSlabsOf}
use Rattle.dpl_spec_split.specs.Marks.{Marks, vertex, letters_by}
use Rattle.dpl_spec_split.specs.Colours.{AreStitches, colour_at, on_mask}
use Rattle.dpl_spec_split.specs.Decomposition.{Cut, Masks, cut_graph}

-- the masks of a cut whose vertices have these letters
pub record AreLettered (marks : Option Marks) (c : Cut) (m : Masks) : Type 0 where
  pub colours : List Bool
  pub each : length colours ≡ vertex marks (length c.pieces)
  pub a : AreSlabsOf (on_mask c.pieces c.zones c.sides (letters_by marks colours) false) m.a
  pub b : AreSlabsOf (on_mask c.pieces c.zones c.sides (letters_by marks colours) true) m.b
  pub stitches : AreStitches c.sides (letters_by marks colours) m.stitches

-- where marks are asked for, the anchor of mask A has letter A
abbrev pub IsAnchored : Option Marks → List Bool → Type 0
IsAnchored None colours = Unit {0}
IsAnchored (Some m) colours = colour_at colours 0 ≡ false

-- joined vertices have different letters
pub record AreSound (marks : Option Marks) (spacing : Spacing) (c : Cut) (colours : List Bool) : Type 0 where
  pub apart : (u v : ℕ) → u < vertex marks (length c.pieces) → v < vertex marks (length c.pieces) → cut_graph marks spacing c u v
      → colour_at colours u ≢ colour_at colours v
  pub anchored : IsAnchored marks colours
