-- The words of edits have no space and no line feed.
use Rattle.std.specs.Prelude.{ℕ, ◌^◌, ◌<◌}
use Rattle.dpl_cert.specs.Lines.{AreWords}
use Rattle.dpl_spec_edits.proofs.Lists.{edit_are_words}
use Rattle.dpl_edits.specs.declared.reading.EditLine.{EditLine}
use Rattle.dpl_edits.specs.Reading.{line_words, IsEditLine}

pub edit_proper : (n : ℕ) (l : EditLine) → n < 2 ^ 64 → IsEditLine l → AreWords (line_words n l)
edit_proper n l h f = edit_are_words l.edit f
