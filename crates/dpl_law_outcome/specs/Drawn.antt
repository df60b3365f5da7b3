-- An edited layer is decomposed as one that is drawn so.
use Rattle.std.specs.Prelude.{◌≡◌, ℕ, List, [], Some}
use Rattle.clap.specs.Walk.{Text}
use Rattle.dpl_host.specs.Outside.{Outside, file_of}
use Rattle.dpl_spec_split.specs.declared.Rect.{Rect}
use Rattle.dpl_spec_split.specs.Squares.{Covers, SameSquares}
use Rattle.dpl_spec_edits.specs.declared.Edit.{Edit}
use Rattle.dpl_spec_edits.specs.Edits.{edited}
use Rattle.dpl_spec_edits.specs.Text.{IsListed}
use Rattle.dpl_words.specs.Meaning.{AsksEdit, AsksSplit, EditValues}
use Rattle.dpl_layer.specs.Reading.{IsReading, Layer}
use Rattle.dpl_run.specs.Edit.{edit_choice, split_by}
use Rattle.dpl_run.specs.Outcome.{Outcome}
use Rattle.dpl_run.specs.Program.{IsPlan}

-- What the edits make of the layer of IN is drawn in another file: that has the same records to copy, and a layer with just the edited squares.
pub record IsDrawnAs (v : EditValues) (o p : Outside) (input : Text) : Type 0 where
  -- the layer of IN, which has no fault
  pub bytes : List ℕ
  pub read : file_of o v.input ≡ Some bytes
  pub copied : List ℕ
  pub layer : List Rect
  pub is_layer : IsReading (edit_choice v) bytes (Layer copied layer)
  -- the edits in EDITS
  pub text : List ℕ
  pub told : file_of o v.edits ≡ Some text
  pub edits : List Edit
  pub listed : IsListed edits text
  -- the layer of the other file
  pub others : List ℕ
  pub other : file_of p input ≡ Some others
  pub drawn : List Rect
  pub is_drawn : IsReading (edit_choice v) others (Layer copied drawn)
  pub squares : SameSquares (Covers drawn) (edited (Covers layer) edits)

-- Of such files `edit` of the one and `split` of the other, by the same values, make one outcome.
abbrev pub EditsAreAsDrawn : Type 0
EditsAreAsDrawn = (v : EditValues) (input : Text) (o p : Outside) (x y : Outcome) → IsDrawnAs v o p input
    → IsPlan (Some (AsksEdit v)) o.files x → IsPlan (Some (AsksSplit (record (split_by v) { input = input }))) p.files y → x ≡ y

-- With an empty text of edits `edit` makes of a file what `split` makes of it, also where the file has a fault or isn't there.
abbrev pub NoEditsAreNone : Type 0
NoEditsAreNone = (v : EditValues) (o : Outside) (x y : Outcome) → file_of o v.edits ≡ Some []
    → IsPlan (Some (AsksEdit v)) o.files x → IsPlan (Some (AsksSplit (split_by v))) o.files y → x ≡ y
