-- What a file of masks keeps: the layer is parted between them, features stay apart, and masks overlap at stitches alone.
use Rattle.std.specs.Prelude.{◌≡◌, ℕ, List, [], ◌∷◌, Option, Some, None, is_some, map, option_map}
use Rattle.std.specs.List.{AllZip, flat_map}
use Rattle.std.specs.FinMap as files
use Rattle.clap.specs.Walk.{Text}
use Rattle.dpl_spec_split.specs.declared.Spacing.{Spacing}
use Rattle.dpl_host.specs.Outside.{Outside}
use Rattle.dpl_spec_split.specs.declared.Rect.{Rect}
use Rattle.dpl_spec_split.specs.Squares.{Covers}
use Rattle.dpl_spec_split.specs.Slabs.{AreSlabsOf}
use Rattle.dpl_spec_split.specs.Components.{AreComponents}
use Rattle.dpl_spec_format.specs.Tree.{Library}
use Rattle.dpl_spec_format.specs.Layout.{Holds}
use Rattle.dpl_spec_layout.specs.Structures.{IsTop}
use Rattle.dpl_spec_layout.specs.Placements.{IsInLayer}
use Rattle.dpl_spec_layout.specs.Faults.{IsFaultless}
use Rattle.dpl_law_split.specs.Masks.{AreCover, KeepsApart, OverlapAt}
use Rattle.dpl_cert.specs.declared.cert.Cert.TheVariants.{Masks}
use Rattle.dpl_cert.specs.declared.cert.Head.{Head}
use Rattle.dpl_cert.specs.declared.cert.PieceLine.{PieceLine}
use Rattle.dpl_cert.specs.declared.cert.StitchLine.{StitchLine}
use Rattle.dpl_cert.specs.declared.cert.Gain.{Gain}
use Rattle.dpl_masks.specs.Bytes.{file_bytes}
use Rattle.dpl_words.specs.Meaning.{AsksBatch, AsksCheck, AsksDemo, AsksEdit, AsksSplit, BatchValues, EditValues, RequestValues, SplitValues, request_of}
use Rattle.dpl_spec_edits.specs.declared.Edit.{Edit}
use Rattle.dpl_spec_edits.specs.Edits.{edited}
use Rattle.dpl_spec_edits.specs.Text.{IsListed}
use Rattle.dpl_spec_split.specs.Marks.{Marks}
use Rattle.dpl_layer.specs.Reading.{IsLayerIn, chosen, copied_of}
use Rattle.dpl_layer.specs.Marked.{AreFaultless, AreMarked}
use Rattle.dpl_law_verdict.specs.Valid.{KeepMarks}
use Rattle.dpl_run.specs.Batch.{greatest, split_of}
use Rattle.dpl_run.specs.Calls.{files_written}
use Rattle.dpl_run.specs.CallsMade.{names_of}
use Rattle.dpl_decide.specs.Deciding.{marks_for}
use Rattle.dpl_run.specs.Edit.{edit_choice, split_by}
use Rattle.dpl_run.specs.Split.{certified, split_choice, split_marked, split_spacing}
use Rattle.dpl_run.specs.Outcome.{Outcome, Shows, carried_out}
use Rattle.dpl_run.specs.Checked.{IsRight}
use Rattle.dpl_run.specs.declared.status.Status.{Status}
use Rattle.dpl_run.specs.declared.status.Status.TheVariants.{Done, Usage}

abbrev pub rects_of_lines : List StitchLine → List Rect
rects_of_lines lines = map (λ (line : StitchLine). line.rect) lines

-- The masks cover the layer and nothing else, neither has squares of two features that are near, and a square is on both exactly where it lies in a stitch.
pub record ArePartingMasks (spacing : Spacing) (layer stitches a b : List Rect) : Type 0 where
  pub features : List (List Rect)
  pub are_features : AreComponents (Covers layer) features
  pub cover : AreCover layer a b
  pub apart_on_a : KeepsApart spacing features a
  pub apart_on_b : KeepsApart spacing features b
  pub overlap : OverlapAt stitches a b

-- what is written of a layer and its marks: masks that part it, behind these records, and a certificate that lists their stitches
pub record AreWrittenMasks (v : SplitValues) (marks : Option Marks) (copied : List ℕ) (layer : List Rect) (writes : List (Text × List ℕ)) : Type 0 where
  pub a : List Rect
  pub b : List Rect
  pub head : Head
  pub pieces : List PieceLine
  pub stitches : List StitchLine
  -- lines of gains exactly where fewer stitches are asked for
  pub gains : Option (List Gain)
  pub asked : is_some gains ≡ v.fewer
  pub parting : ArePartingMasks (split_spacing v) layer (rects_of_lines stitches) a b
  -- each marked square of the layer is on its mask alone
  pub kept : KeepMarks marks layer a b
  pub are : writes ≡ (v.output, file_bytes copied v.a v.b a b) ∷ (v.certificate, certified (Masks head pieces stitches gains)) ∷ []

-- what is written of a file: the masks of its layer
pub record WritesParting (v : SplitValues) (bytes : List ℕ) (writes : List (Text × List ℕ)) : Type 0 where
  -- the layer of the library that the file holds, which has no fault
  pub lib : Library
  pub holds : Holds bytes lib
  pub top : ℕ
  pub is_top : IsTop lib v.top top
  pub faultless : IsFaultless lib top (chosen (split_choice v))
  pub layer : List Rect
  pub squares : AreSlabsOf (IsInLayer lib top (chosen (split_choice v))) layer
  -- which of its squares markers fix to a mask
  pub marked_a : List Rect
  pub marked_b : List Rect
  pub faultless_a : AreFaultless lib top v.mark_a
  pub faultless_b : AreFaultless lib top v.mark_b
  pub on_a : AreMarked lib top v.mark_a layer marked_a
  pub on_b : AreMarked lib top v.mark_b layer marked_b
  -- the records that the masks' file begins with
  pub copied : List ℕ
  pub before : copied_of lib top ≡ Some copied
  pub masks : AreWrittenMasks v (marks_for (split_marked v) marked_a marked_b) copied layer writes

-- the masks of a file that is there are written
pub record WritesMasks (v : SplitValues) (o : Outside) (writes : List (Text × List ℕ)) : Type 0 where
  pub bytes : List ℕ
  pub read : files.get o.files v.input ≡ Some bytes
  pub parted : WritesParting v bytes writes

-- a split that is done writes the masks
abbrev pub IsPartedAlone : SplitValues → Status → Outside → List (Text × List ℕ) → Type 0
IsPartedAlone v status o writes = status ≡ Done → WritesMasks v o writes

-- each layer is split as if it were alone, also where others are in conflict or refused; by its answer its files are written
pub record WritesEach (v : BatchValues) (status : Status) (o : Outside) (writes : List (Text × List ℕ)) : Type 0 where
  pub each : List Outcome
  pub answer : status ≡ greatest (map (λ (x : Outcome). x.status) each)
  pub are : writes ≡ flat_map (λ (x : Outcome). x.writes) each
  pub named : AllZip (λ layer x. names_of x.writes ≡ files_written (Some (AsksSplit (split_of v layer))) x.status) v.layers each
  pub parted : AllZip (λ layer x. IsPartedAlone (split_of v layer) x.status o x.writes) v.layers each

-- what `edit` writes: the masks of the layer of IN as the edits in EDITS make it
pub record WritesEdited (v : EditValues) (o : Outside) (writes : List (Text × List ℕ)) : Type 0 where
  -- the layer of the library that IN holds, which has no fault
  pub bytes : List ℕ
  pub read : files.get o.files v.input ≡ Some bytes
  pub lib : Library
  pub holds : Holds bytes lib
  pub copied : List ℕ
  pub layer : List Rect
  pub is_layer : IsLayerIn (edit_choice v) lib copied layer
  -- what the edits make of it
  pub text : List ℕ
  pub told : files.get o.files v.edits ≡ Some text
  pub edits : List Edit
  pub listed : IsListed edits text
  pub after : List Rect
  pub squares : AreSlabsOf (edited (Covers layer) edits) after
  -- no marks are asked for
  pub masks : AreWrittenMasks (split_by v) None copied after writes

-- what a request writes: `split` the masks, if it is done, `batch` those of each layer that is done, and `edit`, if it is done, those of the edited layer;
-- the others write nothing, and a `check` that is done has found that all is right
abbrev pub IsPartedBy : Option RequestValues → Status → Outside → List (Text × List ℕ) → Type 0
IsPartedBy (Some (AsksSplit v)) status o writes = IsPartedAlone v status o writes
IsPartedBy (Some (AsksCheck v)) status o writes = (writes ≡ []) × (status ≡ Done → IsRight v o)
IsPartedBy (Some (AsksDemo v)) status o writes = writes ≡ []
IsPartedBy (Some (AsksBatch v)) status o writes = WritesEach v status o writes
IsPartedBy (Some (AsksEdit v)) status o writes = status ≡ Done → WritesEdited v o writes
IsPartedBy None status o writes = (writes ≡ []) × (status ≡ Usage)

-- What the words ask for was answered so: the masks that were written part their layers, and where they ask for a check that is done, what the files hold is right.
abbrev pub IsParted : List Text → Status → Option Outside → Option Outside → Type 0
IsParted words status old new = (o : Outside) × Shows old o × ((x : Outcome) × IsPartedBy (request_of words) status o x.writes × (new ≡ option_map (carried_out x) old))
