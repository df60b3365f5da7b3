-- The masks of coloured pieces.
use Rattle.std.specs.Prelude.{◌≡◌, ◌<◌, ◌≤◌, ◌⊎◌, ◌↔◌, ℕ, Bool, false, true, List, slice_index_or}
use Rattle.std.specs.List.{AllPairs, Any, Contains}
use Rattle.dpl_spec_split.specs.declared.Pt.{Pt}
use Rattle.dpl_spec_split.specs.Squares.{Has, Region}
use Rattle.dpl_spec_split.specs.Loops.{AreRectsWithin, IsRectWithin, farthest}
use Rattle.dpl_spec_split.specs.Slabs.{AreSlabsOf}
use Rattle.dpl_spec_split.specs.Colours.{colour_at, differ, on_mask}
use Rattle.dpl_piece.specs.Cutting.{CutPieces}
use Rattle.dpl_piece.specs.declared.matched.Cut.{Cut}
use Rattle.dpl_masks.specs.declared.pair.Masks.{Masks}
use Rattle.dpl_masks.specs.declared.rest.Patch.{Patch}

-- both masks of the pieces in these colours
pub record AreMasksOf (c : CutPieces) (colours : List Bool) (m : Masks) : Type 0 where
  pub first : AreSlabsOf (on_mask c.parts c.zones c.sides colours false) m.a
  pub second : AreSlabsOf (on_mask c.parts c.zones c.sides colours true) m.b

-- the same of a cut, within the range of a layer
pub record AreMasksOfCut (cut : Cut) (colours : List Bool) (m : Masks) : Type 0 where
  pub first : AreSlabsOf (on_mask cut.parts cut.zones.items cut.sides.items colours false) m.a
  pub second : AreSlabsOf (on_mask cut.parts cut.zones.items cut.sides.items colours true) m.b
  pub within : AreRectsWithin farthest m.a × AreRectsWithin farthest m.b

-- one of both sides has this letter
abbrev pub IsEither : List Bool → ℕ × ℕ → Bool → Type 0
IsEither colours side letter = (colour_at colours side.0 ≡ letter) ⊎ (colour_at colours side.1 ≡ letter)

-- a patch of feature f has the square
abbrev pub Holds : List Patch → ℕ → Region
Holds patches f p = Any (λ t. (t.feature ≡ f) × Has t.rect p) patches

-- one of the patches from one place on up to another has it
abbrev pub HoldFrom : List Patch → ℕ → ℕ → Region
HoldFrom patches start end p = (k : ℕ) × (t : Patch) × (start ≤ k) × (k < end) × (slice_index_or patches k t ≡ t) × Has t.rect p

-- the squares of features that are added to those of patches
abbrev pub Adds : List Patch → List Patch → (ℕ → Region) → Type 0
Adds old new added = (f : ℕ) (p : Pt) → Holds new f p ↔ (Holds old f p ⊎ added f p)

abbrev pub ArePatchesWithin : List Patch → Type 0
ArePatchesWithin patches = (t : Patch) → Contains patches t → IsRectWithin farthest t.rect

-- those of the first n zones whose sides differ
pub record AreFirstStitches (n : ℕ) (sides : List (ℕ × ℕ)) (colours : List Bool) (stitches : List ℕ) : Type 0 where
  pub ordered : AllPairs (λ i j. i < j) stitches
  pub exactly : (k : ℕ) → Contains stitches k ↔ ((side : ℕ × ℕ) × (k < n) × (slice_index_or sides k side ≡ side)
      × (differ (colour_at colours side.0) (colour_at colours side.1) ≡ true))
