-- How a file is decided.
use Rattle.std.specs.Prelude.{◌||◌, ℕ, Bool, is_some, List, Option}
use Rattle.dpl_spec_split.specs.declared.Spacing.{Spacing}
use Rattle.dpl_spec_split.specs.declared.Rect.{Rect}
use Rattle.dpl_spec_split.specs.Marks.{Marks, asked}
use Rattle.dpl_cert.specs.declared.name.Name.{Name}
use Rattle.dpl_layer.specs.Marked.{FaultyMarked, IsMarkedReading, MarkedChoice, MarkedLayer}
use Rattle.dpl_answer.specs.Flat.{Flat, IsFlat}

-- the first fault of the file, and where it stands; or the records that are copied, and the decomposition of the layer
pub data Decision : Type 0 where
  Refuses : Name → ℕ → Decision
  Decides : List ℕ → Flat → Decision

-- Marks are asked for where a layer of markers is named.
abbrev pub are_asked : MarkedChoice → Bool
are_asked choice = is_some choice.mark_a || is_some choice.mark_b

abbrev pub marks_for : MarkedChoice → List Rect → List Rect → Option Marks
marks_for choice a b = asked (are_asked choice) a b

-- The first fault of the file, or the decomposition of its layer and its marks, with fewer stitches where they are asked for. The numbers of tiles and workers occur nowhere.
abbrev pub IsDecision : Bool → MarkedChoice → Spacing → ℕ → List ℕ → Decision → Type 0
IsDecision fewer choice spacing overlap bytes (Refuses name at) = IsMarkedReading choice bytes (FaultyMarked name at)
IsDecision fewer choice spacing overlap bytes (Decides copied flat) =
    (layer a b : List Rect) × IsMarkedReading choice bytes (MarkedLayer copied layer a b) × IsFlat fewer (marks_for choice a b) spacing overlap layer flat
