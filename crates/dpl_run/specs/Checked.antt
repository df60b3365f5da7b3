-- What a check that is done has found of the files: the masks are right for the layer, or the conflict is there.
use Rattle.std.specs.Prelude.{◌≡◌, List, ℕ, Option, Some, None}
use Rattle.std.specs.FinMap as files
use Rattle.dpl_host.specs.Outside.{Outside}
use Rattle.dpl_spec_split.specs.declared.Rect.{Rect}
use Rattle.dpl_spec_split.specs.declared.Spacing.{Spacing}
use Rattle.dpl_spec_split.specs.Slabs.{AreSlabsOf}
use Rattle.dpl_spec_format.specs.Tree.{Library}
use Rattle.dpl_spec_format.specs.Layout.{Holds}
use Rattle.dpl_spec_layout.specs.Structures.{IsTop}
use Rattle.dpl_spec_layout.specs.Placements.{IsInLayer}
use Rattle.dpl_spec_layout.specs.Faults.{IsFaultless}
use Rattle.dpl_cert.specs.declared.cert.Head.{Head}
use Rattle.dpl_cert.specs.declared.cert.Gain.{Gain}
use Rattle.dpl_cert.specs.declared.cert.PieceLine.{PieceLine}
use Rattle.dpl_cert.specs.declared.cert.StitchLine.{StitchLine}
use Rattle.dpl_cert.specs.declared.cert.Cert.{Cert}
use Rattle.dpl_cert.specs.declared.cert.Cert.TheVariants.{Masks, Conflict, Fault}
use Rattle.dpl_cert.specs.Grammar.{IsText}
use Rattle.dpl_spec_verdict.specs.Gains.{letters}
use Rattle.dpl_law_verdict.specs.Flips.{NoneLeavesFewer}
use Rattle.dpl_law_verdict.specs.Lines.{AreGoodLines}
use Rattle.dpl_law_verdict.specs.Valid.{AreRight, IsCycleOf, KeepMarks}
use Rattle.dpl_words.specs.Meaning.{CheckValues}
use Rattle.dpl_layer.specs.Reading.{Choice, chosen}
use Rattle.dpl_layer.specs.Marked.{AreFaultless, AreMarked, MarkedChoice}
use Rattle.dpl_spec_split.specs.Marks.{Marks}
use Rattle.dpl_run.specs.Check.{check_marked, check_spacing, mask_choice}
use Rattle.dpl_decide.specs.Deciding.{marks_for}

-- The bytes hold a library with a top, whose chosen layer has no fault, and the squares of these slabs.
pub record HasLayer (choice : Choice) (bytes : List ℕ) (slabs : List Rect) : Type 0 where
  pub lib : Library
  pub holds : Holds bytes lib
  pub top : ℕ
  pub is_top : IsTop lib choice.top top
  pub faultless : IsFaultless lib top (chosen choice)
  pub squares : AreSlabsOf (IsInLayer lib top (chosen choice)) slabs

-- The bytes hold a library with a top, of which neither the chosen layer nor its markers have a fault: the layer has the squares of these slabs, and of them these are marked.
pub record HasMarkedLayer (choice : MarkedChoice) (bytes : List ℕ) (slabs a b : List Rect) : Type 0 where
  pub lib : Library
  pub holds : Holds bytes lib
  pub top : ℕ
  pub is_top : IsTop lib choice.layer.top top
  pub faultless : IsFaultless lib top (chosen choice.layer)
  pub squares : AreSlabsOf (IsInLayer lib top (chosen choice.layer)) slabs
  pub faultless_a : AreFaultless lib top choice.mark_a
  pub faultless_b : AreFaultless lib top choice.mark_b
  pub marked_a : AreMarked lib top choice.mark_a slabs a
  pub marked_b : AreMarked lib top choice.mark_b slabs b

-- where a certificate lists gains, no flip of a single component leaves fewer stitches
abbrev pub NoFlipIsLeft : Option Marks → Spacing → ℕ → List Rect → List PieceLine → Option (List Gain) → Type 0
NoFlipIsLeft marks spacing overlap layer pieces None = Unit {0}
NoFlipIsLeft marks spacing overlap layer pieces (Some lines) = NoneLeavesFewer marks spacing overlap layer (letters pieces)

-- The file has both masks, each on its layer. They are right for the layer and its marks, and so is what the certificate lists of them.
pub record HasRightMasks (v : CheckValues) (marks : Option Marks) (layer : List Rect) (head : Head) (pieces : List PieceLine) (stitches : List StitchLine) (gains : Option (List Gain))
    (bytes : List ℕ) : Type 0 where
  pub a : List Rect
  pub b : List Rect
  pub first : HasLayer (mask_choice v.a) bytes a
  pub second : HasLayer (mask_choice v.b) bytes b
  pub right : AreRight (check_spacing v) layer a b stitches
  pub kept : KeepMarks marks layer a b
  pub lines : AreGoodLines (check_spacing v) v.overlap layer a b head pieces stitches
  pub flips : NoFlipIsLeft marks (check_spacing v) v.overlap layer pieces gains

-- what is right is the masks of a file that is there, or the cycle that is listed
abbrev pub IsRightBy : CheckValues → Outside → Option Marks → List Rect → Cert → Type 0
IsRightBy v o marks layer (Masks head pieces stitches gains) = (bytes : List ℕ) × (files.get o.files v.output ≡ Some bytes) × HasRightMasks v marks layer head pieces stitches gains bytes
IsRightBy v o marks layer (Conflict head cycle near) = IsCycleOf marks (check_spacing v) v.overlap layer head cycle near
IsRightBy v o marks layer (Fault name at) = ⊥

-- The layout and the certificate are there, and what the certificate tells is right for the layout's layer and its marks.
pub record IsRight (v : CheckValues) (o : Outside) : Type 0 where
  pub bytes : List ℕ
  pub read : files.get o.files v.input ≡ Some bytes
  pub layer : List Rect
  pub a : List Rect
  pub b : List Rect
  pub has : HasMarkedLayer (check_marked v) bytes layer a b
  pub text : List ℕ
  pub told : files.get o.files v.certificate ≡ Some text
  pub cert : Cert
  pub certifies : IsText cert text
  pub right : IsRightBy v o (marks_for (check_marked v) a b) layer cert
