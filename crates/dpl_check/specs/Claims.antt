-- What is checked of masks, as the code has it.
use Rattle.std.specs.Prelude.{◌≡◌, ◌≤◌, ℕ, ◌⊎◌, List, Option, Some, None, length}
use Rattle.std.specs.List.{All}
use Rattle.dpl_spec_split.specs.declared.Rect.{Rect}
use Rattle.dpl_spec_split.specs.declared.Spacing.{Spacing}
use Rattle.dpl_spec_split.specs.Marks.{Marks}
use Rattle.dpl_spec_split.specs.Slabs.{AreSlabsOf}
use Rattle.dpl_spec_split.specs.Squares.{Covers}
use Rattle.dpl_cert.specs.Grammar.{IsPiece, IsStitch}
use Rattle.dpl_spec_verdict.specs.declared.Verdict.{Verdict}
use Rattle.dpl_spec_verdict.specs.Masks.{Claim as ClaimOf, IsBadStitch, IsTight, ShowsMarked, ShowsOverlap, ShowsSpacingA, ShowsSpacingB, ShowsStitch, is_doubled, is_misplaced, is_uncovered}
use Rattle.dpl_spec_verdict.specs.Order.{HasBad, HasSquare}
use Rattle.dpl_check.specs.declared.masks.Claim.{Claim}

abbrev pub claim_view : Claim → ClaimOf
claim_view c = record {
  layer = c.layer.now;
  a = c.a.now;
  b = c.b.now;
  head = c.head.now;
  pieces = c.pieces.now;
  stitches = c.stitches.now;
  gains = c.gains.now;
}

-- what the masks are to keep to is sound, and their certificate is one
pub record IsFit (c : Claim) : Type 0 where
  pub corner : c.spacing.corner ≤ c.spacing.rule
  pub overlap : 1 ≤ c.overlap
  pub many : length c.pieces.now ≡ c.head.now.pieces
  pub pieces : All IsPiece c.pieces.now
  pub stitches : All IsStitch c.stitches.now

-- the masks together are the layer
abbrev pub IsCovered : Claim → Type 0
IsCovered c = ¬ HasSquare (is_uncovered c.layer.now c.a.now c.b.now)

-- the squares on both masks
abbrev pub HasBoth : Claim → List Rect → Type 0
HasBoth c both = AreSlabsOf (λ p. Covers c.a.now p × Covers c.b.now p) both

-- what the first broken property shows, if one is broken
abbrev pub FoundOf : Type 0 → (Verdict → Type 0) → (Option Verdict → Type 0) → Option Verdict → Type 0
FoundOf broken shows rest None = ¬ broken × rest None
FoundOf broken shows rest (Some v) = (broken × shows v) ⊎ (¬ broken × rest (Some v))

abbrev pub FoundLast : Type 0 → (Verdict → Type 0) → Option Verdict → Type 0
FoundLast broken shows None = ¬ broken
FoundLast broken shows (Some v) = broken × shows v

-- what is on both masks, or near on one of them
abbrev pub IsBrokenOnMasks : Spacing → ClaimOf → Option Verdict → Type 0
IsBrokenOnMasks spacing c = FoundOf (HasSquare (is_doubled c.a c.b c.stitches)) (ShowsOverlap c)
    (FoundOf (IsTight spacing c.layer c.a) (ShowsSpacingA spacing c) (FoundLast (IsTight spacing c.layer c.b) (ShowsSpacingB spacing c)))

-- a marked square that isn't on its mask alone, or a bad stitch
abbrev pub IsBrokenByMarks : Option Marks → ℕ → ClaimOf → Option Verdict → Type 0
IsBrokenByMarks marks overlap c = FoundOf (HasSquare (is_misplaced marks c.layer c.a c.b)) (ShowsMarked marks c)
    (FoundLast (HasBad (IsBadStitch overlap c.a c.b c.pieces) c.stitches) (ShowsStitch overlap c))
