-- What the program does with the words of its command line and the files.
use Rattle.std.specs.Prelude.{◌≡◌, ◌<◌, ◌≤◌, ℕ, true, List, length, Option, Some, None, option_map, IfSome}
use Rattle.clap.specs.Walk.{Text}
use Rattle.dpl_host.specs.Outside.{Files, Outside, file_of}
use Rattle.std.specs.FinMap as map
use Rattle.dpl_spec_split.specs.declared.Rect.{Rect}
use Rattle.dpl_spec_split.specs.Marks.{Marks}
use Rattle.dpl_cert.specs.declared.cert.Cert.{Cert}
use Rattle.dpl_words.specs.Meaning.{AsksBatch, AsksCheck, AsksDemo, AsksEdit, AsksSplit, CheckValues, EditValues, RequestValues, request_of}
use Rattle.dpl_run.specs.Outcome.{IsPartDone, Outcome, Shows, carried_out, is_answered, says}
use Rattle.dpl_layer.specs.Reading.{limit}
use Rattle.dpl_run.specs.Split.{IsSplitOf}
use Rattle.dpl_run.specs.Check.{IsCheck, IsCheckOfCert, IsCheckOfFile, WithFile}
use Rattle.dpl_run.specs.Batch.{IsBatchOf}
use Rattle.dpl_run.specs.Edit.{IsEditOf, IsEditOfFile}
use Rattle.dpl_run.specs.Demo.{IsDemo}
use Rattle.dpl_texts.specs.Texts.{usage_line}
use Rattle.dpl_run.specs.declared.status.Status.{Status}
use Rattle.dpl_run.specs.declared.status.Status.TheVariants.{Usage}

-- what is an outcome of a request on the files; at most one is
abbrev pub IsPlan : Option RequestValues → Files → Outcome → Type 0
IsPlan (Some (AsksSplit v)) files x = IsSplitOf v (map.get files v.input) x
IsPlan (Some (AsksCheck v)) files x = IsCheck v (map.get files v.input) (map.get files v.certificate) (map.get files v.output) x
IsPlan (Some (AsksDemo v)) files x = IsDemo v x
IsPlan (Some (AsksBatch v)) files x = IsBatchOf v (map.get files v.input) x
IsPlan (Some (AsksEdit v)) files x = IsEditOf v (map.get files v.input) (map.get files v.edits) x
IsPlan None files x = x ≡ says Usage usage_line

-- The answer is that of what the words ask for, on what the outside shows, and all of it was done.
abbrev pub IsOutcome : List Text → Status → Option Outside → Option Outside → Type 0
IsOutcome words status old new = (o : Outside) × Shows old o × ((x : Outcome) × IsPlan (request_of words) o.files x × (status ≡ x.status) × (new ≡ option_map (carried_out x) old))

-- A write failed (status 5): only a beginning of it was done.
abbrev pub IsCutShort : List Text → Option Outside → Option Outside → Type 0
IsCutShort words old new = (o : Outside) × Shows old o × ((x : Outcome) × IsPlan (request_of words) o.files x × IsPartDone x.writes x.line old new)

-- what was made of a request is what it does on what the outside shows
abbrev pub IsMade : Option RequestValues → Option Outside → Outcome → Type 0
IsMade request told made = (o : Outside) × Shows told o × IsPlan request o.files made × (is_answered made.status ≡ true)

-- what is read of a name on what the outside shows: its bytes, where they aren't too many
abbrev pub IsInput : Option Outside → Text → Option (List ℕ) → Type 0
IsInput told name (Some bytes) = (o : Outside) × Shows told o × (file_of o name ≡ Some bytes) × (length bytes ≤ limit)
IsInput told name None = (o : Outside) × Shows told o × ((file : List ℕ) × (file_of o name ≡ Some file) × (limit < length file))

-- where the outside tells, a name's file has these bytes, or too many
abbrev pub IsSeen : Option Outside → Text → Option (List ℕ) → Type 0
IsSeen told name (Some bytes) = IfSome told (λ o. file_of o name ≡ Some bytes) × (length bytes ≤ limit)
IsSeen told name None = IfSome told (λ o. (file : List ℕ) × (file_of o name ≡ Some file) × (limit < length file))

-- where the outside tells, a name's file is this one, or isn't there
abbrev pub IsTold : Option Outside → Text → Option (List ℕ) → Type 0
IsTold told name file = IfSome told (λ o. file_of o name ≡ file)

-- what was made of the file of masks, if the certificate has one
abbrev pub IsMadeOfCert : Option Outside → CheckValues → Option Marks → List Rect → Cert → Outcome → Type 0
IsMadeOfCert told v marks layer cert x = (out : Option (List ℕ)) × IsTold told v.output out × IsCheckOfCert v marks layer out cert x × (is_answered x.status ≡ true)

-- what was made of the certificate's file
abbrev pub IsMadeOfLayer : Option Outside → CheckValues → Option Marks → List Rect → Outcome → Type 0
IsMadeOfLayer told v marks layer x = (cert out : Option (List ℕ)) × IsTold told v.certificate cert × IsTold told v.output out
    × WithFile cert (IsCheckOfFile v marks layer out) x × (is_answered x.status ≡ true)

-- what was made of the text of edits, for this layer
abbrev pub IsMadeOfEdits : Option Outside → EditValues → List ℕ → List Rect → Outcome → Type 0
IsMadeOfEdits told v copied layer x = (text : Option (List ℕ)) × IsTold told v.edits text × WithFile text (IsEditOfFile v copied layer) x × (is_answered x.status ≡ true)
