-- What follows from the definitions.
use Rattle.std.specs.Prelude.{◌≡◌, ℕ, ◌+◌, ◌<◌, ◌≤◌, ◌↔◌, Bool, true, false, List, length, slice_index, Option}
use Rattle.std.specs.List.{All}
use Rattle.dpl_spec_split.specs.declared.Spacing.{Spacing}
use Rattle.dpl_spec_split.specs.Marks.{Marks}
use Rattle.dpl_spec_split.specs.Colours.{differ, colour_at}
use Rattle.dpl_spec_split.specs.Decomposition.{AreMasks, Cut, Masks}
use Rattle.dpl_spec_fewer.specs.Fewer.{stitch_count, flipped, Gains, LeadsTo, AreFewerColours, zones_out}
use Rattle.dpl_spec_fewer.specs.Masks.{AreMasksBy}

-- vertices of a graph, with the zones between them
pub record AreVertices (roots : List ℕ) (sides : List (ℕ × ℕ)) (colours : List Bool) : Type 0 where
  pub each : length colours ≡ length roots
  pub within : All (λ (side : ℕ × ℕ). (side.0 < length roots) × (side.1 < length roots)) sides

-- A flip takes the zones to other components whose sides differ from the stitches, and adds those whose sides agree.
abbrev pub FlipsByCounts : Type 0
FlipsByCounts = (roots : List ℕ) (sides : List (ℕ × ℕ)) (colours : List Bool) (root : ℕ) → AreVertices roots sides colours
    → stitch_count sides (flipped roots root colours) + zones_out roots colours root true sides ≡
    stitch_count sides colours + zones_out roots colours root false sides

-- letters lead to at most one end
abbrev pub OneEnd : Type 0
OneEnd = (roots : List ℕ) (fixed : Option ℕ) (sides : List (ℕ × ℕ)) (colours a b : List Bool) → LeadsTo roots fixed sides colours a
    → LeadsTo roots fixed sides colours b → a ≡ b

-- a graph has at most one colouring with fewer stitches
abbrev pub OneFewer : Type 0
OneFewer = (roots : List ℕ) (odds : List Bool) (sides : List (ℕ × ℕ)) (fixed : Option ℕ) (a b : List Bool) → AreFewerColours roots odds sides fixed a
    → AreFewerColours roots odds sides fixed b → a ≡ b

-- at the end no single component's flip, but the fixed one's, leaves fewer stitches
abbrev pub NoneGains : Type 0
NoneGains = (roots : List ℕ) (fixed : Option ℕ) (sides : List (ℕ × ℕ)) (colours last : List Bool) → LeadsTo roots fixed sides colours last
    → (root : ℕ) → ¬ Gains roots fixed sides last root

-- the end has no more stitches
abbrev pub NoMoreStitches : Type 0
NoMoreStitches = (roots : List ℕ) (fixed : Option ℕ) (sides : List (ℕ × ℕ)) (colours last : List Bool) → LeadsTo roots fixed sides colours last
    → stitch_count sides last ≤ stitch_count sides colours

-- the letters of the component of root are as they were, or all are the other ones
abbrev pub IsKeptOrFlipped : List ℕ → List Bool → List Bool → ℕ → Type 0
IsKeptOrFlipped roots colours last root =
    (b : Bool) × ((v : ℕ) → v < length roots → slice_index roots v ≡ root → colour_at last v ≡ differ b (colour_at colours v))

-- at the end each component is as it was, or flipped
abbrev pub ComponentsAreKept : Type 0
ComponentsAreKept = (roots : List ℕ) (fixed : Option ℕ) (sides : List (ℕ × ℕ)) (colours last : List Bool) → length colours ≡ length roots
    → LeadsTo roots fixed sides colours last → (length last ≡ length roots) × ((root : ℕ) → IsKeptOrFlipped roots colours last root)

-- without the wish for fewer stitches the masks are those of the decomposition
abbrev pub PlainMasksAreMasks : Type 0
PlainMasksAreMasks = (marks : Option Marks) (spacing : Spacing) (c : Cut) (m : Masks) → AreMasksBy false marks spacing c m ↔ AreMasks marks spacing c m

-- by the colours of either kind a cut has at most one pair of masks, with one list of letters
abbrev pub OneOfMasks : Type 0
OneOfMasks = (fewer : Bool) (marks : Option Marks) (spacing : Spacing) (c : Cut) (m n : Masks) → (a : AreMasksBy fewer marks spacing c m)
    → (b : AreMasksBy fewer marks spacing c n) → (a.colours ≡ b.colours) × (m ≡ n)
