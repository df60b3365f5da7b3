-- What a certificate tells of masks.
use Rattle.std.specs.Prelude.{◌≡◌, ℕ, Bool, List, Option, length, map}
use Rattle.std.specs.List.{AllByRecursion, zip}
use Rattle.dpl_spec_split.specs.declared.Pt.{Pt}
use Rattle.dpl_spec_split.specs.declared.Rect.{Rect}
use Rattle.dpl_spec_split.specs.declared.Spacing.{Spacing}
use Rattle.dpl_spec_split.specs.declared.Zone.{Zone}
use Rattle.dpl_spec_split.specs.Colours.{AreStitches}
use Rattle.dpl_spec_split.specs.Marks.{Marks}
use Rattle.dpl_stars.specs.declared.joined.Joined.{Joined}
use Rattle.dpl_piece.specs.Cutting.{CutPieces}
use Rattle.dpl_piece.specs.View.{cut_view}
use Rattle.dpl_cert.specs.declared.cert.Gain.{Gain}
use Rattle.dpl_cert.specs.declared.cert.PieceLine.{PieceLine}
use Rattle.dpl_cert.specs.declared.cert.StitchLine.{StitchLine}
use Rattle.dpl_cert.specs.Grammar.{AreGains, IsNumber, IsPiece, IsStitch}
use Rattle.dpl_law_verdict.specs.Own.{AreGainsBy, piece_line, stitch_line}
use Rattle.dpl_answer.specs.Anchors.{AreLettersOf}

-- the lines of pieces with these letters, and those of the stitches between them
pub record AreMaskLines (zones : List Zone) (sides : List (ℕ × ℕ)) (keys : List Pt) (letters : List Bool) (ps : List PieceLine) (ss : List StitchLine) : Type 0 where
  pub numbers : List ℕ
  pub differing : AreStitches sides letters numbers
  pub pieces : ps ≡ map piece_line (zip letters keys)
  pub stitches : ss ≡ map (stitch_line zones sides) numbers

-- lines within the grammar of certificates
pub record FitMaskLines (ps : List PieceLine) (ss : List StitchLine) : Type 0 where
  pub pieces : AllByRecursion IsPiece ps
  pub count : IsNumber (length ss)
  pub stitches : AllByRecursion IsStitch ss

-- the letters of the pieces of a cut, the gains that are left of them, and their lines, within the grammar of certificates
pub record IsTold (fewer : Bool) (marks : Option Marks) (spacing : Spacing) (joined : Joined) (cut : CutPieces)
    (ls : List Bool) (gs : Option (List Gain)) (ps : List PieceLine) (ss : List StitchLine) : Type 0 where
  pub letters : AreLettersOf fewer marks joined (length cut.parts) cut.sides ls
  pub each : length ls ≡ length cut.parts
  pub gains : (features : List (List Rect)) → AreGainsBy fewer marks spacing (cut_view features cut) ls gs
  pub gains_fit : AreGains gs
  pub lines : AreMaskLines cut.zones cut.sides cut.keys ls ps ss
  pub lines_fit : FitMaskLines ps ss
  pub lines_each : length ps ≡ length cut.parts
