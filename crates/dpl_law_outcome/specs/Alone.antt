-- A layer of a batch is decomposed as by itself, and of a file nothing shows in it but that layer.
use Rattle.std.specs.Prelude.{◌≡◌, ◌⊎◌, ℕ, List, Some}
use Rattle.std.specs.List.{AllZip, Contains, zip}
use Rattle.clap.specs.Walk.{Text}
use Rattle.dpl_host.specs.Outside.{Outside, file_of}
use Rattle.dpl_spec_split.specs.Squares.{Covers, SameSquares}
use Rattle.dpl_words.specs.Meaning.{AsksBatch, AsksSplit, BatchValues, SplitValues, certificate_name, mask_name}
use Rattle.dpl_words.specs.Ranges.{AreInRangeForBatch, IsApart}
use Rattle.dpl_layer.specs.Marked.{FaultyMarked, IsMarkedReading, MarkedLayer, MarkedReading}
use Rattle.dpl_run.specs.Batch.{split_of, together}
use Rattle.dpl_run.specs.Outcome.{Outcome, carried_out}
use Rattle.dpl_run.specs.Program.{IsPlan}
use Rattle.dpl_run.specs.Split.{split_marked}

-- these are, layer by layer, the outcomes of `split` of each layer alone
abbrev pub AreAlone : BatchValues → Outside → List Outcome → Type 0
AreAlone v o each = AllZip (λ layer x. IsPlan (Some (AsksSplit (split_of v layer))) o.files x) v.layers each

-- Of a file that is there, `batch` writes and says of each layer what `split` alone writes and says of it.
abbrev pub EachLayerIsAlone : Type 0
EachLayerIsAlone = (v : BatchValues) (o : Outside) (bytes : List ℕ) (x : Outcome) → file_of o v.input ≡ Some bytes → IsPlan (Some (AsksBatch v)) o.files x
    → (each : List Outcome) × AreAlone v o each × (x ≡ together v.layers each)

-- one of both files of a layer
abbrev pub IsFileOf : Text → ℕ → Text → Type 0
IsFileOf prefix layer name = (name ≡ mask_name prefix layer) ⊎ (name ≡ certificate_name prefix layer)

-- After a `batch` that words can ask for each file of a layer is as `split` of that layer alone leaves it.
abbrev pub EachFileIsAlone : Type 0
EachFileIsAlone = (v : BatchValues) (o : Outside) (bytes : List ℕ) (x y : Outcome) (layer : ℕ) (name : Text) → AreInRangeForBatch v → IsApart (AsksBatch v)
    → file_of o v.input ≡ Some bytes → Contains v.layers layer → IsFileOf v.prefix layer name
    → IsPlan (Some (AsksBatch v)) o.files x → IsPlan (Some (AsksSplit (split_of v layer))) o.files y → file_of (carried_out x o) name ≡ file_of (carried_out y o) name

-- Two readings of a layer agree: both are one fault, or both have one list of records to copy and the same squares, of which the same are marked.
abbrev pub AreAlike : MarkedReading → MarkedReading → Type 0
AreAlike (FaultyMarked m i) (FaultyMarked n j) = (m ≡ n) × (i ≡ j)
AreAlike (FaultyMarked m i) (MarkedLayer q s c d) = ⊥
AreAlike (MarkedLayer p r a b) (FaultyMarked n j) = ⊥
AreAlike (MarkedLayer p r a b) (MarkedLayer q s c d) =
    (p ≡ q) × SameSquares (Covers r) (Covers s) × SameSquares (Covers a) (Covers c) × SameSquares (Covers b) (Covers d)

-- the bytes of two files whose readings agree, for the layer and the markers of a command line of `split`
abbrev pub AgreeFor : SplitValues → List ℕ → List ℕ → Type 0
AgreeFor v bytes others = (r s : MarkedReading) × IsMarkedReading (split_marked v) bytes r × IsMarkedReading (split_marked v) others s × AreAlike r s

-- both files are there, and agree so
abbrev pub FilesAgree : SplitValues → Outside → Text → Outside → Text → Type 0
FilesAgree v o input p other = (bytes others : List ℕ) × (file_of o input ≡ Some bytes) × (file_of p other ≡ Some others) × AgreeFor v bytes others

-- Of files that agree in a layer `split` makes one outcome.
abbrev pub AgreeingFilesAreOne : Type 0
AgreeingFilesAreOne = (v : SplitValues) (input : Text) (o p : Outside) (x y : Outcome) → FilesAgree v o v.input p input
    → IsPlan (Some (AsksSplit v)) o.files x → IsPlan (Some (AsksSplit (record v { input = input }))) p.files y → x ≡ y

-- what a batch writes and says of one of its layers
abbrev pub IsPartOf : BatchValues → Outside → Outcome → ℕ → Outcome → Type 0
IsPartOf v o x layer part = (each : List Outcome) × AreAlone v o each × (x ≡ together v.layers each) × Contains (zip v.layers each) (layer, part)

-- Batches of files that agree in a layer write and say the same of it, whatever the files hold besides, and whatever the other layers are.
abbrev pub AgreeingBatchesAreOne : Type 0
AgreeingBatchesAreOne = (v : BatchValues) (input : Text) (layers : List ℕ) (o p : Outside) (x y : Outcome) (layer : ℕ) (a b : Outcome)
    → FilesAgree (split_of v layer) o v.input p input → IsPartOf v o x layer a → IsPartOf (record v { input = input; layers = layers }) p y layer b → a ≡ b
