-- The calls that a run makes of its host: reads of what the answer rests on, then the writing of what the answer has, and no other.
use Rattle.std.specs.Prelude.{◌≡◌, ◌⊎◌, ℕ, true, List, [], ◌∷◌, ◌++◌, Option, Some, None, IfSome, length}
use Rattle.std.specs.List.{flat_map, zip}
use Rattle.clap.specs.Walk.{Text}
use Rattle.dpl_host.specs.Calls.{AreReadsOf, AreSays, Call, IsWritingOf}
use Rattle.dpl_host.specs.Outside.{Outside, file_of}
use Rattle.dpl_spec_split.specs.declared.Rect.{Rect}
use Rattle.dpl_cert.specs.declared.cert.Cert.{Cert}
use Rattle.dpl_cert.specs.Grammar.{IsText}
use Rattle.dpl_spec_verdict.specs.Masks.{IsOfMasks}
use Rattle.dpl_words.specs.Meaning.{AsksBatch, AsksCheck, AsksDemo, AsksEdit, AsksSplit, BatchValues, CheckValues, EditValues, RequestValues, request_of}
use Rattle.dpl_cert.specs.declared.name.Name.{Name}
use Rattle.dpl_layer.specs.Marked.{IsMarkedReading, MarkedLayer}
use Rattle.dpl_layer.specs.Reading.{Faulty, IsReading, Layer}
use Rattle.dpl_run.specs.Batch.{greatest, split_of}
use Rattle.dpl_run.specs.Check.{check_marked}
use Rattle.dpl_run.specs.Edit.{edit_choice, split_by}
use Rattle.dpl_run.specs.Outcome.{is_answered}
use Rattle.dpl_run.specs.declared.status.Status.{Status}
use Rattle.dpl_run.specs.declared.status.Status.TheVariants.{Done, Refused, ReadFault, WriteFault, NoMemory}

-- IN is read as a file with the layer and its markers, and CERT as a certificate of masks
abbrev pub HasLayerIn : CheckValues → Outside → Type 0
HasLayerIn v o = (bytes copied : List ℕ) × (layer a b : List Rect) × (file_of o v.input ≡ Some bytes) × IsMarkedReading (check_marked v) bytes (MarkedLayer copied layer a b)

abbrev pub HasMasksCert : CheckValues → Outside → Type 0
HasMasksCert v o = (text : List ℕ) × (cert : Cert) × (file_of o v.certificate ≡ Some text) × IsText cert text × IsOfMasks cert

-- What `check` reads behind IN: CERT, and then OUT only where CERT has a certificate of masks.
pub record AreReadsOfCert (v : CheckValues) (told : Option Outside) (calls : List Call) : Type 0 where
  pub cert : List Call
  pub out : List Call
  pub are : calls ≡ cert ++ out
  pub of_cert : AreReadsOf v.certificate cert
  pub of_out : (out ≡ []) ⊎ (AreReadsOf v.output out × IfSome told (HasMasksCert v))

-- What `check` reads: IN, and then more only where IN has the layer.
pub record AreReadsOfCheck (v : CheckValues) (told : Option Outside) (calls : List Call) : Type 0 where
  pub layout : List Call
  pub more : List Call
  pub are : calls ≡ layout ++ more
  pub of_layout : AreReadsOf v.input layout
  pub of_more : (more ≡ []) ⊎ (AreReadsOfCert v told more × IfSome told (HasLayerIn v))

-- IN is read as a file with the layer that is to be edited, or it has a fault
abbrev pub HasLayerToEdit : EditValues → Outside → Type 0
HasLayerToEdit v o = (bytes copied : List ℕ) × (layer : List Rect) × (file_of o v.input ≡ Some bytes) × IsReading (edit_choice v) bytes (Layer copied layer)

abbrev pub HasNoLayerToEdit : EditValues → Outside → Type 0
HasNoLayerToEdit v o = (bytes : List ℕ) × (name : Name) × (at : ℕ) × (file_of o v.input ≡ Some bytes) × IsReading (edit_choice v) bytes (Faulty name at)

-- What `edit` reads: IN, and then EDITS only where IN has the layer.
pub record AreReadsOfEdit (v : EditValues) (told : Option Outside) (calls : List Call) : Type 0 where
  pub layout : List Call
  pub edits : List Call
  pub are : calls ≡ layout ++ edits
  pub of_layout : AreReadsOf v.input layout
  pub of_edits : (edits ≡ []) ⊎ (AreReadsOf v.edits edits × IfSome told (HasLayerToEdit v))

-- what a request reads
abbrev pub AreReadsFor : Option RequestValues → Option Outside → List Call → Type 0
AreReadsFor (Some (AsksSplit v)) told calls = AreReadsOf v.input calls
AreReadsFor (Some (AsksCheck v)) told calls = AreReadsOfCheck v told calls
AreReadsFor (Some (AsksDemo v)) told calls = calls ≡ []
AreReadsFor (Some (AsksBatch v)) told calls = AreReadsOf v.input calls
AreReadsFor (Some (AsksEdit v)) told calls = AreReadsOfEdit v told calls
AreReadsFor None told calls = calls ≡ []

-- the files that an answer to a request writes, in order
abbrev pub files_written : Option RequestValues → Status → List Text
files_written (Some (AsksSplit v)) Done = v.output ∷ v.certificate ∷ []
files_written (Some (AsksSplit v)) _ = v.certificate ∷ []
files_written _ _ = []

-- each file is written, one behind another, and then a line is said; or only a beginning of that
abbrev pub AreWritings : List Text → List Call → Type 0
AreWritings [] calls = AreSays calls
AreWritings (name ∷ names) calls = (one rest : List Call) × (calls ≡ one ++ rest) × IsWritingOf name one × AreWritings names rest

abbrev pub BeginWritings : List Text → List Call → Type 0
BeginWritings names calls = (rest : List Call) × AreWritings names (calls ++ rest)

-- what is written at the end of a run: nothing without an answer, and a beginning of what some answer writes where a write failed
abbrev pub AreWritingsOf : Option RequestValues → Status → List Call → Type 0
AreWritingsOf request ReadFault calls = calls ≡ []
AreWritingsOf request NoMemory calls = calls ≡ []
AreWritingsOf request WriteFault calls = (answer : Status) × (is_answered answer ≡ true) × BeginWritings (files_written request answer) calls
AreWritingsOf request answer calls = AreWritings (files_written request answer) calls

-- the files that `batch` writes where its layers have these answers
abbrev pub batch_files : BatchValues → List Status → List Text
batch_files v answers = flat_map (λ (p : ℕ × Status). files_written (Some (AsksSplit (split_of v p.0))) p.1) (zip v.layers answers)

-- answers of all layers, of which this one is the greatest
abbrev pub AreAnswersOf : BatchValues → Status → List Status → Type 0
AreAnswersOf v status answers = (length answers ≡ length v.layers) × (status ≡ greatest answers)

-- what `batch` writes at the end of a run
abbrev pub AreWritingsOfBatch : BatchValues → Status → List Call → Type 0
AreWritingsOfBatch v ReadFault calls = calls ≡ []
AreWritingsOfBatch v NoMemory calls = calls ≡ []
AreWritingsOfBatch v WriteFault calls = (answer : Status) × (answers : List Status) × (is_answered answer ≡ true) × AreAnswersOf v answer answers × BeginWritings (batch_files v answers) calls
AreWritingsOfBatch v answer calls = (answers : List Status) × AreAnswersOf v answer answers × AreWritings (batch_files v answers) calls

-- The files that `edit` writes: those of `split`, but where it refuses EDITS none. Which of IN and EDITS is refused shows in IN, where the outside is told. No body can
-- know whether its host tells it, so this binds the body over each host.
abbrev pub AreFilesOfEdit : EditValues → Option Outside → Status → List Text → Type 0
AreFilesOfEdit v told Refused names = ((names ≡ v.certificate ∷ []) × IfSome told (HasNoLayerToEdit v)) ⊎ ((names ≡ []) × IfSome told (HasLayerToEdit v))
AreFilesOfEdit v told answer names = names ≡ files_written (Some (AsksSplit (split_by v))) answer

-- what `edit` writes at the end of a run
abbrev pub AreWritingsOfEdit : EditValues → Option Outside → Status → List Call → Type 0
AreWritingsOfEdit v told ReadFault calls = calls ≡ []
AreWritingsOfEdit v told NoMemory calls = calls ≡ []
AreWritingsOfEdit v told WriteFault calls = (answer : Status) × (names : List Text) × (is_answered answer ≡ true) × AreFilesOfEdit v told answer names × BeginWritings names calls
AreWritingsOfEdit v told answer calls = (names : List Text) × AreFilesOfEdit v told answer names × AreWritings names calls

-- what a request writes at the end of a run
abbrev pub AreWritingsFor : Option RequestValues → Option Outside → Status → List Call → Type 0
AreWritingsFor (Some (AsksBatch v)) told status calls = AreWritingsOfBatch v status calls
AreWritingsFor (Some (AsksEdit v)) told status calls = AreWritingsOfEdit v told status calls
AreWritingsFor request told status calls = AreWritingsOf request status calls

-- the calls of a run of these words that ends so
pub record AreCallsOf (words : List Text) (told : Option Outside) (status : Status) (calls : List Call) : Type 0 where
  pub reads : List Call
  pub writings : List Call
  pub are : calls ≡ reads ++ writings
  pub read : AreReadsFor (request_of words) told reads
  pub written : AreWritingsFor (request_of words) told status writings
