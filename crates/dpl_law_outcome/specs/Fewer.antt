-- A file has no more stitches where fewer are asked for.
use Rattle.std.specs.Prelude.{◌≡◌, ◌≤◌, ℕ, true, false, List, length, Option}
use Rattle.dpl_host.specs.Outside.{Outside}
use Rattle.dpl_spec_split.specs.declared.Spacing.{Spacing}
use Rattle.dpl_spec_split.specs.Marks.{Marks, sides_by}
use Rattle.dpl_spec_split.specs.Decomposition.{Cut}
use Rattle.dpl_spec_fewer.specs.Fewer.{Gains}
use Rattle.dpl_spec_fewer.specs.Masks.{fixed_by}
use Rattle.dpl_words.specs.Meaning.{SplitValues}
use Rattle.dpl_answer.specs.Flat.{Clashes, Flat, IsPaintedCut, Painted, Paints}
use Rattle.dpl_law_outcome.specs.OwnFiles.{IsDecided}

-- both are masks, the first with no more stitches, or both are the same conflict
abbrev pub HasNoMore : Flat → Flat → Type 0
HasNoMore (Paints p) (Paints q) = length p.stitches ≤ length q.stitches
HasNoMore (Paints p) (Clashes y) = ⊥
HasNoMore (Clashes x) (Paints q) = ⊥
HasNoMore (Clashes x) (Clashes y) = x ≡ y

-- so it is with what a file has by --fewer and what it has without
abbrev pub FewerTellNoMore : Type 0
FewerTellNoMore = (v : SplitValues) (o : Outside) (front other : List ℕ) (few plain : Flat) → IsDecided (record v { fewer = true }) o front few
    → IsDecided (record v { fewer = false }) o other plain → HasNoMore few plain

-- of the masks of a cut with --fewer no flip of a single component, but the fixed vertex's, leaves fewer stitches
abbrev pub NoFlipIsLeft : Type 0
NoFlipIsLeft = (marks : Option Marks) (spacing : Spacing) (overlap : ℕ) (cut : Cut) (p : Painted) → (painted : IsPaintedCut true marks spacing overlap cut p)
    → (root : ℕ) → ¬ Gains painted.are_masks.roots (fixed_by marks) (sides_by marks cut.sides) painted.are_masks.colours root
