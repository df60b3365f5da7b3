-- What `demo` does: as `split` does with a made-up file, but nothing is written.
use Rattle.std.specs.Prelude.{◌≡◌, false, None, length}
use Rattle.dpl_spec_split.specs.Squares.{uniform}
use Rattle.dpl_demo.specs.Demo.{demo_file}
use Rattle.dpl_words.specs.Meaning.{DemoValues}
use Rattle.dpl_layer.specs.Reading.{Choice}
use Rattle.dpl_layer.specs.Marked.{MarkedChoice}
use Rattle.dpl_answer.specs.Flat.{Clashes, Paints}
use Rattle.dpl_run.specs.Outcome.{Outcome, says}
use Rattle.dpl_decide.specs.Deciding.{Decides, Decision, IsDecision, Refuses}
use Rattle.dpl_texts.specs.Texts.{conflict_line, demo_line, refused_line}
use Rattle.dpl_run.specs.declared.status.Status.TheVariants.{Done, Conflict, Refused}

-- layer 1 of the only structure
abbrev pub demo_choice : Choice
demo_choice = record { top = None; layer = 1; datatype = 0 }

abbrev pub demo_plan : Decision → Outcome
demo_plan (Refuses name at) = says Refused (refused_line name at)
demo_plan (Decides copied (Paints p)) = says Done (demo_line p.head (length p.stitches) (length p.a) (length p.b))
demo_plan (Decides copied (Clashes x)) = says Conflict (conflict_line (length x.cycle))

-- without markers
abbrev pub demo_marked : MarkedChoice
demo_marked = record { layer = demo_choice; mark_a = None; mark_b = None }

-- The made-up file is decided by the rule of 30, which is the corner rule too, and the overlap of 10. The numbers of tiles and workers occur nowhere.
abbrev pub IsDemo : DemoValues → Outcome → Type 0
IsDemo v x = (d : Decision) × IsDecision false demo_marked (uniform 30) 10 (demo_file v.seed v.rows) d × (x ≡ demo_plan d)
