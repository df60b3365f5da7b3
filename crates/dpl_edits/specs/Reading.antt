-- What reading edits gives.
use Rattle.std.specs.Prelude.{ℕ, List}
use Rattle.dpl_spec_edits.specs.Text.{edit_words, IsEdit, IsFirstBad}
use Rattle.dpl_edits.specs.declared.reading.EditLine.{EditLine}
use Rattle.dpl_edits.specs.declared.reading.EditsFault.{EditsFault}
use Rattle.dpl_edits.specs.declared.reading.EditsFault.TheVariants.{NoMemory, BadLine}

-- a line's words don't have its place in them
abbrev pub line_words : ℕ → EditLine → List (List ℕ)
line_words n l = edit_words l.edit

abbrev pub IsEditLine : EditLine → Type 0
IsEditLine l = IsEdit l.edit

-- the text is refused at its first bad line
abbrev pub IsRefusal : List ℕ → EditsFault → Type 0
IsRefusal bytes NoMemory = Unit {0}
IsRefusal bytes (BadLine n) = IsFirstBad bytes n
