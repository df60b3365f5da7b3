-- Laws of edits.
use Rattle.std.specs.Prelude.{◌≡◌, ◌++◌, ℕ, List}
use Rattle.dpl_spec_split.specs.declared.Rect.{Rect}
use Rattle.dpl_spec_split.specs.Squares.{Covers, SameSquares}
use Rattle.dpl_spec_edits.specs.declared.Edit.{Edit}
use Rattle.dpl_spec_edits.specs.Edits.{edited}
use Rattle.dpl_spec_edits.specs.Text.{IsFirstBad, IsListed}

-- two lists of rectangles with the same squares have the same squares after the same edits
abbrev pub EditsKeepSameSquares : Type 0
EditsKeepSameSquares = (es : List Edit) (a b : List Rect) → SameSquares (Covers a) (Covers b) → SameSquares (edited (Covers a) es) (edited (Covers b) es)

-- two lists of edits in a row make what the second makes of what the first made
abbrev pub EditsOneAfterAnother : Type 0
EditsOneAfterAnother = (es fs : List Edit) (a : List Rect) → SameSquares (edited (Covers a) (es ++ fs)) (edited (edited (Covers a) es) fs)

-- a text lists at most one list of edits
abbrev pub OneListOfEdits : Type 0
OneListOfEdits = (es fs : List Edit) (bytes : List ℕ) → IsListed es bytes → IsListed fs bytes → es ≡ fs

-- a text has at most one first bad line
abbrev pub OneFirstBadLine : Type 0
OneFirstBadLine = (bytes : List ℕ) (m n : ℕ) → IsFirstBad bytes m → IsFirstBad bytes n → m ≡ n

-- no text both lists edits and has a first bad line
abbrev pub TextsAreNotBoth : Type 0
TextsAreNotBoth = (es : List Edit) (bytes : List ℕ) (n : ℕ) → IsListed es bytes → IsFirstBad bytes n → ⊥
