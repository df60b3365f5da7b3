-- What `split` does with a file.
use Rattle.std.specs.Prelude.{◌≡◌, ℕ, List, [], ◌∷◌, Option, Some, None, length}
use Rattle.dpl_spec_split.specs.declared.Spacing.{Spacing}
use Rattle.dpl_cert.specs.declared.name.Name.{Name}
use Rattle.dpl_cert.specs.declared.cert.Cert.{Cert}
use Rattle.dpl_cert.specs.declared.cert.Cert.TheVariants.{Masks, Conflict as ConflictText, Fault}
use Rattle.dpl_cert.specs.Lines.{text}
use Rattle.dpl_cert.specs.Grammar.{lines_of}
use Rattle.dpl_masks.specs.Bytes.{file_bytes}
use Rattle.dpl_words.specs.Meaning.{SplitValues}
use Rattle.dpl_layer.specs.Reading.{Choice}
use Rattle.dpl_layer.specs.Marked.{MarkedChoice}
use Rattle.dpl_answer.specs.Flat.{Clash, Clashes, Painted, Paints}
use Rattle.dpl_decide.specs.Deciding.{Decides, Decision, IsDecision, Refuses}
use Rattle.dpl_run.specs.Outcome.{Outcome, silent}
use Rattle.dpl_texts.specs.Texts.{conflict_line, done_line, refused_line}
use Rattle.dpl_run.specs.declared.status.Status.TheVariants.{Done, Conflict, Refused, ReadFault}

-- the layer that a command line of `split` chooses
abbrev pub split_choice : SplitValues → Choice
split_choice v = record { top = v.top; layer = v.layer; datatype = v.datatype }

-- and its markers
abbrev pub split_marked : SplitValues → MarkedChoice
split_marked v = record { layer = split_choice v; mark_a = v.mark_a; mark_b = v.mark_b }

-- how far apart it keeps features on one mask
abbrev pub split_spacing : SplitValues → Spacing
split_spacing v = record { rule = v.rule; corner = v.corner }

abbrev pub certified : Cert → List ℕ
certified c = text (lines_of c)

-- A refusal writes the fault.
abbrev pub refusal : SplitValues → Name → ℕ → Outcome
refusal v name at = record { status = Refused; writes = (v.certificate, certified (Fault name at)) ∷ []; line = refused_line name at }

-- A decomposition writes both masks, and then their certificate.
abbrev pub painting : SplitValues → List ℕ → Painted → Outcome
painting v copied p = record {
  status = Done;
  writes = (v.output, file_bytes copied v.a v.b p.a p.b) ∷ (v.certificate, certified (Masks p.head p.pieces p.stitches p.gains)) ∷ [];
  line = done_line p.head (length p.stitches) (length p.a) (length p.b);
}

-- A conflict writes the cycle.
abbrev pub clash : SplitValues → Clash → Outcome
clash v x = record { status = Conflict; writes = (v.certificate, certified (ConflictText x.head x.cycle x.near)) ∷ []; line = conflict_line (length x.cycle) }

abbrev pub plan_of : SplitValues → Decision → Outcome
plan_of v (Refuses name at) = refusal v name at
plan_of v (Decides copied (Paints p)) = painting v copied p
plan_of v (Decides copied (Clashes x)) = clash v x

-- what is done with the bytes of the file
abbrev pub IsSplit : SplitValues → List ℕ → Outcome → Type 0
IsSplit v bytes x = (d : Decision) × IsDecision v.fewer (split_marked v) (split_spacing v) v.overlap bytes d × (x ≡ plan_of v d)

-- what is done with the file, if it is there
abbrev pub IsSplitOf : SplitValues → Option (List ℕ) → Outcome → Type 0
IsSplitOf v None x = x ≡ silent ReadFault
IsSplitOf v (Some bytes) x = IsSplit v bytes x
