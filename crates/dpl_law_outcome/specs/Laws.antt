-- A command line has at most one outcome, and masks are right.
use Rattle.std.specs.Prelude.{◌≡◌, ℕ, Bool, List, map, Option, Some}
use Rattle.clap.specs.Walk.{Text}
use Rattle.dpl_spec_split.specs.declared.Spacing.{Spacing}
use Rattle.dpl_host.specs.Outside.{Files, Outside}
use Rattle.dpl_spec_split.specs.declared.Rect.{Rect}
use Rattle.dpl_spec_split.specs.Squares.{Covers}
use Rattle.dpl_spec_split.specs.Marks.{Marks}
use Rattle.dpl_spec_split.specs.Components.{AreComponents}
use Rattle.dpl_law_split.specs.Masks.{AreCover, KeepsApart, OverlapAt}
use Rattle.dpl_cert.specs.declared.cert.StitchLine.{StitchLine}
use Rattle.dpl_words.specs.Meaning.{AsksBatch, AsksCheck, AsksDemo, AsksEdit, AsksSplit, RequestValues, request_of}
use Rattle.dpl_run.specs.declared.status.Status.{Status}
use Rattle.dpl_answer.specs.Flat.{Painted, Paints, IsFlat}
use Rattle.dpl_run.specs.Outcome.{Outcome}
use Rattle.dpl_run.specs.Program.{IsOutcome, IsPlan}

-- the same command line with other values of --tile and --workers, if it has them
abbrev pub retiled : RequestValues → ℕ → ℕ → RequestValues
retiled (AsksSplit v) tile workers = AsksSplit (record v { tile = tile; workers = workers })
retiled (AsksCheck v) tile workers = AsksCheck v
retiled (AsksDemo v) tile workers = AsksDemo (record v { tile = tile; workers = workers })
retiled (AsksBatch v) tile workers = AsksBatch (record v { tile = tile; workers = workers })
retiled (AsksEdit v) tile workers = AsksEdit (record v { tile = tile })

-- of the same files there is at most one outcome
abbrev pub OneOutcome : Type 0
OneOutcome = (request : RequestValues) (tile workers : ℕ) (files : Files) (x y : Outcome) → IsPlan (Some request) files x
    → IsPlan (Some (retiled request tile workers)) files y → x ≡ y

-- From one outside such words end with one status, and leave the same files and the same text said.
abbrev pub OneRun : Type 0
OneRun = (request : RequestValues) (tile workers : ℕ) (words others : List Text) (o : Outside) (s t : Status) (new other : Option Outside) → request_of words ≡ Some request
    → request_of others ≡ Some (retiled request tile workers) → IsOutcome words s (Some o) new → IsOutcome others t (Some o) other → (s ≡ t) × (new ≡ other)

-- what holds of the masks of a layer and of the stitches that their certificate lists
pub record AreRight (spacing : Spacing) (layer : List Rect) (p : Painted) : Type 0 where
  pub cover : AreCover layer p.a p.b
  pub apart : (features : List (List Rect)) → AreComponents (Covers layer) features → KeepsApart spacing features p.a × KeepsApart spacing features p.b
  pub overlap : OverlapAt (map (λ (s : StitchLine). s.rect) p.stitches) p.a p.b

abbrev pub PaintedMasksAreRight : Type 0
PaintedMasksAreRight = (fewer : Bool) (marks : Option Marks) (spacing : Spacing) (overlap : ℕ) (layer : List Rect) (p : Painted)
    → IsFlat fewer marks spacing overlap layer (Paints p) → AreRight spacing layer p
