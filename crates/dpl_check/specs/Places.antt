-- Places of a cycle, by the tree of the layer's pieces.
use Rattle.std.specs.Prelude.{◌≡◌, ℕ, ◌<◌, ◌⊎◌, ◌↔◌, List, [], length, slice_index_or, Bool, true, false}
use Rattle.dpl_spec_split.specs.declared.Spacing.{Spacing}
use Rattle.dpl_spec_split.specs.declared.Pt.{Pt}
use Rattle.dpl_spec_split.specs.declared.Rect.{Rect}
use Rattle.dpl_spec_split.specs.Squares.{Near}
use Rattle.dpl_spec_split.specs.Zones.{part_at}
use Rattle.dpl_spec_split.specs.Decomposition.{Cut}
use Rattle.dpl_piece.specs.Cutting.{CutPieces}
use Rattle.dpl_piece.specs.View.{cut_view}
use Rattle.dpl_cert.specs.declared.cert.PlaceLine.{PlaceLine}
use Rattle.dpl_cert.specs.declared.cert.PlaceLine.TheVariants.{Piece, Anchor}
use Rattle.dpl_spec_verdict.specs.Conflicts.{AreSame, place_at}
use Rattle.dpl_check.specs.declared.stood.Stood.{Stood}

-- a piece of the layer, with its key
pub record IsKeyed (pieces : CutPieces) (piece : ℕ) (p : Pt) : Type 0 where
  pub known : piece < length pieces.parts
  pub key : p ≡ slice_index_or pieces.keys piece p

-- squares of two pieces that are near
pub record IsNearLine (spacing : Spacing) (pieces : List (List Rect)) (piece next : ℕ) (p q : Pt) : Type 0 where
  pub from : part_at pieces piece p
  pub to : part_at pieces next q
  pub near : Near spacing p q

-- the cut into these pieces; it doesn't matter here what its features are
abbrev pub bare : CutPieces → Cut
bare pieces = cut_view [] pieces

-- an anchor, or one of so many pieces
abbrev pub IsBelow : ℕ → PlaceLine → Type 0
IsBelow count (Piece n key) = n < count
IsBelow count (Anchor b) = Unit {0}

-- whether what stands at the place is noted
abbrev pub stood_at : Stood → PlaceLine → Bool
stood_at s (Piece n key) = slice_index_or s.pieces.items n false
stood_at s (Anchor false) = s.a
stood_at s (Anchor true) = s.b

-- what stands at the place is noted too
pub record HasNoted (place : PlaceLine) (before after : Stood) : Type 0 where
  pub each : length after.pieces.items ≡ length before.pieces.items
  pub exactly : (other : PlaceLine) → (stood_at after other ≡ true) ↔ (AreSame place other ⊎ (stood_at before other ≡ true))

-- what stands at the first k places is noted
pub record AreNoted (count : ℕ) (cycle : List PlaceLine) (k : ℕ) (stood : Stood) : Type 0 where
  pub each : length stood.pieces.items ≡ count
  pub exactly : (place : PlaceLine) → (stood_at stood place ≡ true) ↔ ((j : ℕ) × (j < k) × AreSame (place_at cycle j) place)
