-- What a valid verdict of masks gives of the lines of their certificate.
use Rattle.std.specs.Prelude.{Option, ◌≡◌, ℕ, ◌<◌, cond, List, length, slice_index_or}
use Rattle.dpl_spec_split.specs.declared.Spacing.{Spacing}
use Rattle.dpl_spec_split.specs.declared.Rect.{Rect}
use Rattle.dpl_spec_split.specs.Squares.{Covers}
use Rattle.dpl_spec_split.specs.Components.{AreComponents}
use Rattle.dpl_spec_split.specs.Marks.{Marks}
use Rattle.dpl_cert.specs.declared.cert.Head.{Head}
use Rattle.dpl_cert.specs.declared.cert.PieceLine.{PieceLine}
use Rattle.dpl_cert.specs.declared.cert.Gain.{Gain}
use Rattle.dpl_cert.specs.declared.cert.StitchLine.{StitchLine}
use Rattle.dpl_cert.specs.declared.cert.Cert.TheVariants.{Masks}
use Rattle.dpl_spec_verdict.specs.declared.Verdict.TheVariants.{Valid}
use Rattle.dpl_spec_verdict.specs.Masks.{IsGoodStitch, IsVerdictOfMasks}

-- the mask that the line names has its square
abbrev pub IsOnItsMask : List Rect → List Rect → PieceLine → Type 0
IsOnItsMask a b line = Covers (cond line.b b a) line.key

-- the rule, the overlap, the corner rule and the number of features are the layer's, and each line is good
pub record AreGoodLines (spacing : Spacing) (overlap : ℕ) (layer a b : List Rect) (head : Head) (pieces : List PieceLine) (stitches : List StitchLine) : Type 0 where
  pub rules : (head.rule ≡ spacing.rule) × (head.overlap ≡ overlap) × (head.corner ≡ spacing.corner)
  pub counted : (features : List (List Rect)) → AreComponents (Covers layer) features → head.features ≡ length features
  pub stitched : (k : ℕ) (d : StitchLine) → k < length stitches → IsGoodStitch overlap (Covers a) (Covers b) pieces (slice_index_or stitches k d)
  pub lettered : (k : ℕ) (d : PieceLine) → k < length pieces → IsOnItsMask a b (slice_index_or pieces k d)

abbrev pub ValidLinesAreGood : Type 0
ValidLinesAreGood = (marks : Option Marks) (spacing : Spacing) (overlap : ℕ) (layer a b : List Rect) (head : Head) (pieces : List PieceLine) (stitches : List StitchLine) (gains : Option (List Gain))
    → IsVerdictOfMasks marks spacing overlap layer a b (Masks head pieces stitches gains) Valid → AreGoodLines spacing overlap layer a b head pieces stitches
