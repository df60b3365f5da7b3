-- What the program has made, in the words of the definitions.
use Rattle.std.specs.Prelude.{ℕ, List, Option, map, string_bytes}
use Rattle.clap.specs.Walk.{Text}
use Rattle.dpl_run.specs.Outcome.{Outcome}
use Rattle.dpl_decide.specs.Deciding.{marks_for}
use Rattle.dpl_run.specs.Check.{check_marked}
use Rattle.dpl_words.specs.Meaning.{CheckValues}
use Rattle.dpl_layer.specs.declared.marked.MarkedLayer.{MarkedLayer}
use Rattle.dpl_spec_split.specs.Marks.{Marks}
use Rattle.dpl_run.specs.declared.output.Output.{Output}
use Rattle.dpl_run.specs.declared.output.FileName.{FileName}
use Rattle.dpl_run.specs.declared.output.FileName.TheVariants.{Given, Made}
use Rattle.dpl_run.specs.declared.output.Write.{Write}

abbrev pub name_text : FileName → Text
name_text (Given name) = name.now
name_text (Made name) = string_bytes name

abbrev pub write_view : Write → Text × List ℕ
write_view w = (name_text w.name, w.bytes.items)

abbrev pub output_view : Output → Outcome
output_view x = record { status = x.status; writes = map write_view x.writes.items; line = string_bytes x.line }

-- the marks of a layer that is checked
abbrev pub marks_with : CheckValues → MarkedLayer → Option Marks
marks_with v layer = marks_for (check_marked v) layer.mark_a layer.mark_b
