-- What `check` does with three files.
use Rattle.std.specs.Prelude.{◌≡◌, ◌⊎◌, ◌<◌, ◌≤◌, ℕ, List, length, Option, Some, None, codes}
use Rattle.dpl_spec_split.specs.declared.Spacing.{Spacing}
use Rattle.dpl_spec_split.specs.declared.Rect.{Rect}
use Rattle.dpl_cert.specs.declared.name.Name.{Name}
use Rattle.dpl_cert.specs.declared.name.Name.TheVariants.{TooLarge}
use Rattle.dpl_cert.specs.declared.cert.Cert.{Cert}
use Rattle.dpl_cert.specs.declared.cert.Cert.TheVariants.{Masks, Conflict, Fault}
use Rattle.dpl_cert.specs.Grammar.{IsText}
use Rattle.dpl_parse.specs.Reading.{IsBadLine}
use Rattle.dpl_spec_verdict.specs.declared.Verdict.{Verdict}
use Rattle.dpl_spec_verdict.specs.declared.Verdict.TheVariants.{Valid, WasFault}
use Rattle.dpl_spec_verdict.specs.Masks.{IsVerdictOfMasks}
use Rattle.dpl_spec_verdict.specs.Conflicts.{IsVerdictOfConflict}
use Rattle.dpl_words.specs.Meaning.{CheckValues}
use Rattle.dpl_layer.specs.Reading.{Choice, Faulty, IsReading, Layer, Reading, limit}
use Rattle.dpl_layer.specs.Marked.{FaultyMarked, IsMarkedReading, MarkedChoice, MarkedLayer, MarkedReading}
use Rattle.dpl_spec_split.specs.Marks.{Marks}
use Rattle.dpl_decide.specs.Deciding.{marks_for}
use Rattle.dpl_run.specs.Outcome.{Outcome, says, silent}
use Rattle.dpl_texts.specs.Texts.{bad_line_line, refused_file_line, verdict_line}
use Rattle.dpl_run.specs.declared.status.Status.{Status}
use Rattle.dpl_run.specs.declared.status.Status.TheVariants.{Done, Refused, ReadFault, CheckNo}

-- the layer that is checked, and each mask's layer in the file of masks
abbrev pub check_choice : CheckValues → Choice
check_choice v = record { top = v.top; layer = v.layer; datatype = v.datatype }

-- and its markers
abbrev pub check_marked : CheckValues → MarkedChoice
check_marked v = record { layer = check_choice v; mark_a = v.mark_a; mark_b = v.mark_b }

-- how far apart features are to be on one mask
abbrev pub check_spacing : CheckValues → Spacing
check_spacing v = record { rule = v.rule; corner = v.corner }

abbrev pub mask_choice : ℕ → Choice
mask_choice layer = record { top = None; layer = layer; datatype = 0 }

abbrev pub refusal_of : List ℕ → Name → ℕ → Outcome
refusal_of file name at = says Refused (refused_file_line file name at)

-- a certificate is kept, or a property of it is broken
abbrev pub verdict_status : Verdict → Status
verdict_status Valid = Done
verdict_status _ = CheckNo

abbrev pub verdict_outcome : Cert → Verdict → Outcome
verdict_outcome cert verdict = says (verdict_status verdict) (verdict_line cert verdict)

-- with the bytes of a file, if it is there
abbrev pub WithFile : Option (List ℕ) → (List ℕ → Outcome → Type 0) → Outcome → Type 0
WithFile None next x = x ≡ silent ReadFault
WithFile (Some bytes) next x = next bytes x

abbrev pub ByReading : List ℕ → (List Rect → Outcome → Type 0) → Reading → Outcome → Type 0
ByReading file next (Faulty name at) x = x ≡ refusal_of file name at
ByReading file next (Layer copied slabs) x = next slabs x

-- with the slabs of a layer of a file, if the file has no fault
abbrev pub WithLayer : List ℕ → Choice → List ℕ → (List Rect → Outcome → Type 0) → Outcome → Type 0
WithLayer file choice bytes next x = (reading : Reading) × IsReading choice bytes reading × ByReading file next reading x

-- the same with a layer and its marked squares
abbrev pub ByMarkedReading : List ℕ → (List Rect → List Rect → List Rect → Outcome → Type 0) → MarkedReading → Outcome → Type 0
ByMarkedReading file next (FaultyMarked name at) x = x ≡ refusal_of file name at
ByMarkedReading file next (MarkedLayer copied slabs a b) x = next slabs a b x

abbrev pub WithMarkedLayer : List ℕ → MarkedChoice → List ℕ → (List Rect → List Rect → List Rect → Outcome → Type 0) → Outcome → Type 0
WithMarkedLayer file choice bytes next x = (reading : MarkedReading) × IsMarkedReading choice bytes reading × ByMarkedReading file next reading x

abbrev pub IsJudged : CheckValues → Option Marks → List Rect → Cert → List Rect → List Rect → Outcome → Type 0
IsJudged v marks layer cert a b x = (w : Verdict) × IsVerdictOfMasks marks (check_spacing v) v.overlap layer a b cert w × (x ≡ verdict_outcome cert w)

-- The file of masks has each mask on its layer, in its top.
abbrev pub IsCheckOfMasks : CheckValues → Option Marks → List Rect → Cert → List ℕ → Outcome → Type 0
IsCheckOfMasks v marks layer cert bytes = WithLayer (codes "out") (mask_choice v.a) bytes (λ a. WithLayer (codes "out") (mask_choice v.b) bytes (IsJudged v marks layer cert a))

-- Masks are read only where the certificate is of masks, and a fault is none of the layout's, which has a layer.
abbrev pub IsCheckOfCert : CheckValues → Option Marks → List Rect → Option (List ℕ) → Cert → Outcome → Type 0
IsCheckOfCert v marks layer out (Masks head pieces stitches gains) x = WithFile out (IsCheckOfMasks v marks layer (Masks head pieces stitches gains)) x
IsCheckOfCert v marks layer out (Conflict head cycle near) x =
    (w : Verdict) × IsVerdictOfConflict marks (check_spacing v) v.overlap layer (Conflict head cycle near) w × (x ≡ verdict_outcome (Conflict head cycle near) w)
IsCheckOfCert v marks layer out (Fault name at) x = x ≡ verdict_outcome (Fault name at) (WasFault name at)

-- the text is that of a certificate, or no certificate's from some line on
abbrev pub IsCheckOfText : CheckValues → Option Marks → List Rect → Option (List ℕ) → List ℕ → Outcome → Type 0
IsCheckOfText v marks layer out text x =
    ((cert : Cert) × IsText cert text × IsCheckOfCert v marks layer out cert x)
    ⊎ ((n : ℕ) × IsBadLine text n × (x ≡ says Refused (bad_line_line (codes "cert") n)))

-- the text isn't too large
abbrev pub IsCheckOfFile : CheckValues → Option Marks → List Rect → Option (List ℕ) → List ℕ → Outcome → Type 0
IsCheckOfFile v marks layer out text x =
    ((limit < length text) × (x ≡ refusal_of (codes "cert") TooLarge limit))
    ⊎ ((length text ≤ limit) × IsCheckOfText v marks layer out text x)

-- the files in order: the layout, the certificate, and the masks
abbrev pub IsCheck : CheckValues → Option (List ℕ) → Option (List ℕ) → Option (List ℕ) → Outcome → Type 0
IsCheck v layout cert out = WithFile layout (λ bytes. WithMarkedLayer (codes "in") (check_marked v) bytes
    (λ layer a b. WithFile cert (IsCheckOfFile v (marks_for (check_marked v) a b) layer out)))
