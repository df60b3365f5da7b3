-- What `edit` does with a layout and a text of edits: what `split` does with the layer that the edits make.
use Rattle.std.specs.Prelude.{◌≡◌, ◌⊎◌, ◌<◌, ◌≤◌, ℕ, false, List, length, Option, None, codes}
use Rattle.dpl_spec_split.specs.declared.Rect.{Rect}
use Rattle.dpl_spec_split.specs.Squares.{Covers}
use Rattle.dpl_spec_split.specs.Slabs.{AreSlabsOf}
use Rattle.dpl_spec_edits.specs.declared.Edit.{Edit}
use Rattle.dpl_spec_edits.specs.Edits.{edited}
use Rattle.dpl_spec_edits.specs.Text.{IsFirstBad, IsListed}
use Rattle.dpl_cert.specs.declared.name.Name.TheVariants.{TooLarge}
use Rattle.dpl_words.specs.Meaning.{EditValues, SplitValues}
use Rattle.dpl_layer.specs.Reading.{Choice, Faulty, IsReading, Layer, Reading, limit}
use Rattle.dpl_answer.specs.Flat.{Flat, IsFlat}
use Rattle.dpl_decide.specs.Deciding.{Decides}
use Rattle.dpl_texts.specs.Texts.{bad_line_line}
use Rattle.dpl_run.specs.Check.{WithFile, refusal_of}
use Rattle.dpl_run.specs.Outcome.{Outcome, says}
use Rattle.dpl_run.specs.Split.{plan_of, refusal, split_choice, split_spacing}
use Rattle.dpl_run.specs.declared.status.Status.TheVariants.{Refused}

-- the command line of `split` whose answer it is, for the edited layer
abbrev pub split_by : EditValues → SplitValues
split_by v = record {
  layer = v.layer;
  datatype = v.datatype;
  rule = v.rule;
  overlap = v.overlap;
  corner = v.corner;
  top = v.top;
  a = v.a;
  b = v.b;
  mark_a = None;
  mark_b = None;
  tile = v.tile;
  workers = 1;
  fewer = false;
  input = v.input;
  output = v.output;
  certificate = v.certificate;
}

-- the layer that is edited
abbrev pub edit_choice : EditValues → Choice
edit_choice v = split_choice (split_by v)

-- the edits are made, and the edited layer is decomposed
abbrev pub IsEditedBy : EditValues → List ℕ → List Rect → List Edit → Outcome → Type 0
IsEditedBy v copied layer es x =
    (after : List Rect) × AreSlabsOf (edited (Covers layer) es) after
    × (flat : Flat) × IsFlat false None (split_spacing (split_by v)) v.overlap after flat × (x ≡ plan_of (split_by v) (Decides copied flat))

-- the text lists edits, or some line of it is the first by which it lists none
abbrev pub IsEditOfText : EditValues → List ℕ → List Rect → List ℕ → Outcome → Type 0
IsEditOfText v copied layer text x =
    ((es : List Edit) × IsListed es text × IsEditedBy v copied layer es x)
    ⊎ ((n : ℕ) × IsFirstBad text n × (x ≡ says Refused (bad_line_line (codes "edits") n)))

-- the text isn't too large
abbrev pub IsEditOfFile : EditValues → List ℕ → List Rect → List ℕ → Outcome → Type 0
IsEditOfFile v copied layer text x =
    ((limit < length text) × (x ≡ refusal_of (codes "edits") TooLarge limit))
    ⊎ ((length text ≤ limit) × IsEditOfText v copied layer text x)

-- a layout with a fault is refused as by `split`, and its edits aren't read
abbrev pub IsEditOfReading : EditValues → Option (List ℕ) → Reading → Outcome → Type 0
IsEditOfReading v text (Faulty name at) x = x ≡ refusal (split_by v) name at
IsEditOfReading v text (Layer copied layer) x = WithFile text (IsEditOfFile v copied layer) x

-- the files in order: the layout, and the text of edits
abbrev pub IsEditOf : EditValues → Option (List ℕ) → Option (List ℕ) → Outcome → Type 0
IsEditOf v layout text = WithFile layout (λ bytes x. (reading : Reading) × IsReading (edit_choice v) bytes reading × IsEditOfReading v text reading x)
