-- What is checked of masks, in order.
use Rattle.std.specs.Prelude.{Option, ◌≡◌, ◌≢◌, ℕ, pos, ◌<◌, ◌⊎◌, ◌-ℤ◌, ◌≤ℤ◌, false, cond, List, length, slice_index_or}
use Rattle.std.specs.List.{Any}
use Rattle.dpl_spec_split.specs.declared.Spacing.{Spacing}
use Rattle.dpl_spec_split.specs.declared.Pt.{Pt}
use Rattle.dpl_spec_split.specs.declared.Rect.{Rect}
use Rattle.dpl_spec_split.specs.Squares.{Region, Covers, Has, IsLeast, Near}
use Rattle.dpl_spec_split.specs.Components.{Linked}
use Rattle.dpl_spec_split.specs.Zones.{at}
use Rattle.dpl_spec_split.specs.Marks.{Marks, marked_a, marked_b}
use Rattle.dpl_cert.specs.declared.cert.Head.{Head}
use Rattle.dpl_cert.specs.declared.cert.Gain.{Gain}
use Rattle.dpl_cert.specs.declared.cert.PieceLine.{PieceLine}
use Rattle.dpl_cert.specs.declared.cert.StitchLine.{StitchLine}
use Rattle.dpl_cert.specs.declared.cert.Cert.{Cert}
use Rattle.dpl_cert.specs.declared.cert.Cert.TheVariants.{Masks, Conflict, Fault}
use Rattle.dpl_spec_verdict.specs.declared.Verdict.{Verdict}
use Rattle.dpl_spec_verdict.specs.declared.Verdict.TheVariants.{Cover, Overlap, SpacingA, SpacingB, Marked, Stitch, Piece}
use Rattle.dpl_spec_verdict.specs.Order.{FirstOf, IsFirstBad, HasBad, IsLeastPair, RulesDiffer, ShowsRules, IsFeatureCount, ShowsCounts, HasSquare}
use Rattle.dpl_spec_verdict.specs.Gains.{letters, VerdictOfGains}

-- the layer has another number of features
abbrev pub CountDiffers : List Rect → Head → Type 0
CountDiffers layer head = ¬ IsFeatureCount layer head.features

-- on one mask at least
abbrev pub is_masked : List Rect → List Rect → Region
is_masked a b p = Covers a p ⊎ Covers b p

-- in exactly one of the layer and the union of the masks
abbrev pub is_uncovered : List Rect → List Rect → List Rect → Region
is_uncovered layer a b p = (Covers layer p × ¬ is_masked a b p) ⊎ (is_masked a b p × ¬ Covers layer p)

-- on both masks and in no listed stitch
abbrev pub is_doubled : List Rect → List Rect → List StitchLine → Region
is_doubled a b stitches p = Covers a p × Covers b p × ¬ Any (λ s. Has s.rect p) stitches

-- squares of different features that are on a mask and near
pub record AreTooClose (spacing : Spacing) (layer mask : Region) (p q : Pt) : Type 0 where
  pub first : mask p
  pub second : mask q
  pub of_layer : layer p × layer q
  pub apart : ¬ Linked layer p q
  pub close : Near spacing p q

abbrev pub IsTight : Spacing → List Rect → List Rect → Type 0
IsTight spacing layer mask = (p q : Pt) × AreTooClose spacing (Covers layer) (Covers mask) p q

abbrev pub IsTightest : Spacing → List Rect → List Rect → Pt → Pt → Type 0
IsTightest spacing layer mask p q = IsLeastPair (AreTooClose spacing (Covers layer) (Covers mask)) p q

-- on the one mask and not on the other
abbrev pub is_alone : List Rect → List Rect → Region
is_alone mask other p = Covers mask p × ¬ Covers other p

-- a square of the layer that is fixed to a mask and isn't on that one alone
abbrev pub is_misplaced : Option Marks → List Rect → List Rect → List Rect → Region
is_misplaced marks layer a b p = Covers layer p × ((marked_a marks p × ¬ is_alone a b p) ⊎ (marked_b marks p × ¬ is_alone b a p))

-- a piece line; where there is none, it doesn't matter which
abbrev pub piece_at : List PieceLine → ℕ → PieceLine
piece_at pieces k = slice_index_or pieces k (record { b = false; key = at (pos 0) (pos 0) })

-- each square on both masks, its width or its height at least the overlap, and both its pieces listed, on different masks
pub record IsGoodStitch (overlap : ℕ) (a b : Region) (pieces : List PieceLine) (s : StitchLine) : Type 0 where
  pub on_both : (p : Pt) → Has s.rect p → a p × b p
  pub long : (pos overlap ≤ℤ (s.rect.x1 -ℤ s.rect.x0)) ⊎ (pos overlap ≤ℤ (s.rect.y1 -ℤ s.rect.y0))
  pub listed : (s.p < length pieces) × (s.q < length pieces)
  pub letters : (piece_at pieces s.p).b ≢ (piece_at pieces s.q).b

abbrev pub IsBadStitch : ℕ → List Rect → List Rect → List PieceLine → ℕ → StitchLine → Type 0
IsBadStitch overlap a b pieces k s = ¬ IsGoodStitch overlap (Covers a) (Covers b) pieces s

-- the square isn't on the mask that the line names
abbrev pub IsBadPiece : List Rect → List Rect → ℕ → PieceLine → Type 0
IsBadPiece a b k line = ¬ Covers (cond line.b b a) line.key

-- masks of a layer, and what their certificate says of them
pub record Claim : Type 0 where
  pub layer : List Rect
  pub a : List Rect
  pub b : List Rect
  pub head : Head
  pub pieces : List PieceLine
  pub stitches : List StitchLine
  pub gains : Option (List Gain)

abbrev pub ShowsPiece : Claim → Verdict → Type 0
ShowsPiece c v = (k : ℕ) × IsFirstBad (IsBadPiece c.a c.b) c.pieces k × (v ≡ Piece k)

abbrev pub VerdictFromGains : Option Marks → Spacing → ℕ → Claim → Verdict → Type 0
VerdictFromGains marks spacing overlap c = VerdictOfGains marks spacing overlap c.layer c.head (letters c.pieces) c.gains

abbrev pub VerdictFromPieces : Option Marks → Spacing → ℕ → Claim → Verdict → Type 0
VerdictFromPieces marks spacing overlap c = FirstOf (HasBad (IsBadPiece c.a c.b) c.pieces) (ShowsPiece c) (VerdictFromGains marks spacing overlap c)

abbrev pub ShowsStitch : ℕ → Claim → Verdict → Type 0
ShowsStitch overlap c v = (k : ℕ) × IsFirstBad (IsBadStitch overlap c.a c.b c.pieces) c.stitches k × (v ≡ Stitch k)

abbrev pub VerdictFromStitches : Option Marks → Spacing → ℕ → Claim → Verdict → Type 0
VerdictFromStitches marks spacing overlap c =
    FirstOf (HasBad (IsBadStitch overlap c.a c.b c.pieces) c.stitches) (ShowsStitch overlap c) (VerdictFromPieces marks spacing overlap c)

abbrev pub ShowsMarked : Option Marks → Claim → Verdict → Type 0
ShowsMarked marks c v = (p : Pt) × IsLeast (is_misplaced marks c.layer c.a c.b) p × (v ≡ Marked p)

abbrev pub VerdictFromMarked : Option Marks → Spacing → ℕ → Claim → Verdict → Type 0
VerdictFromMarked marks spacing overlap c =
    FirstOf (HasSquare (is_misplaced marks c.layer c.a c.b)) (ShowsMarked marks c) (VerdictFromStitches marks spacing overlap c)

abbrev pub ShowsSpacingB : Spacing → Claim → Verdict → Type 0
ShowsSpacingB spacing c v = (p q : Pt) × IsTightest spacing c.layer c.b p q × (v ≡ SpacingB p q)

abbrev pub VerdictFromSpacingB : Option Marks → Spacing → ℕ → Claim → Verdict → Type 0
VerdictFromSpacingB marks spacing overlap c = FirstOf (IsTight spacing c.layer c.b) (ShowsSpacingB spacing c) (VerdictFromMarked marks spacing overlap c)

abbrev pub ShowsSpacingA : Spacing → Claim → Verdict → Type 0
ShowsSpacingA spacing c v = (p q : Pt) × IsTightest spacing c.layer c.a p q × (v ≡ SpacingA p q)

abbrev pub VerdictFromSpacingA : Option Marks → Spacing → ℕ → Claim → Verdict → Type 0
VerdictFromSpacingA marks spacing overlap c = FirstOf (IsTight spacing c.layer c.a) (ShowsSpacingA spacing c) (VerdictFromSpacingB marks spacing overlap c)

abbrev pub ShowsOverlap : Claim → Verdict → Type 0
ShowsOverlap c v = (p : Pt) × IsLeast (is_doubled c.a c.b c.stitches) p × (v ≡ Overlap p)

abbrev pub VerdictFromOverlap : Option Marks → Spacing → ℕ → Claim → Verdict → Type 0
VerdictFromOverlap marks spacing overlap c =
    FirstOf (HasSquare (is_doubled c.a c.b c.stitches)) (ShowsOverlap c) (VerdictFromSpacingA marks spacing overlap c)

abbrev pub ShowsCover : Claim → Verdict → Type 0
ShowsCover c v = (p : Pt) × IsLeast (is_uncovered c.layer c.a c.b) p × (v ≡ Cover p)

abbrev pub VerdictFromCover : Option Marks → Spacing → ℕ → Claim → Verdict → Type 0
VerdictFromCover marks spacing overlap c = FirstOf (HasSquare (is_uncovered c.layer c.a c.b)) (ShowsCover c) (VerdictFromOverlap marks spacing overlap c)

abbrev pub VerdictFromCounts : Option Marks → Spacing → ℕ → Claim → Verdict → Type 0
VerdictFromCounts marks spacing overlap c = FirstOf (CountDiffers c.layer c.head) (ShowsCounts marks spacing overlap c.layer) (VerdictFromCover marks spacing overlap c)

abbrev pub VerdictOfClaim : Option Marks → Spacing → ℕ → Claim → Verdict → Type 0
VerdictOfClaim marks spacing overlap c = FirstOf (RulesDiffer spacing overlap c.head) (ShowsRules c.head c.gains) (VerdictFromCounts marks spacing overlap c)

abbrev pub IsOfMasks : Cert → Type 0
IsOfMasks (Masks h ps ss gs) = Unit {0}
IsOfMasks (Conflict h cs ns) = ⊥
IsOfMasks (Fault name at) = ⊥

-- the verdict of masks a and b of a layer, by their certificate
abbrev pub IsVerdictOfMasks : Option Marks → Spacing → ℕ → List Rect → List Rect → List Rect → Cert → Verdict → Type 0
IsVerdictOfMasks marks spacing overlap layer a b (Masks h ps ss gs) v =
    VerdictOfClaim marks spacing overlap (record { layer = layer; a = a; b = b; head = h; pieces = ps; stitches = ss; gains = gs }) v
IsVerdictOfMasks marks spacing overlap layer a b (Conflict h cs ns) v = ⊥
IsVerdictOfMasks marks spacing overlap layer a b (Fault name at) v = ⊥
