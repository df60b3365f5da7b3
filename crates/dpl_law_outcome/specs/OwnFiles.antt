-- `check` finds nothing broken in what `split` has written.
use Rattle.std.specs.Prelude.{◌≡◌, ◌≤◌, ◌⊎◌, ℕ, List, length, Option, Some, option_map}
use Rattle.clap.specs.Walk.{Text}
use Rattle.dpl_host.specs.Outside.{Outside, file_of, with_said}
use Rattle.dpl_cert.specs.declared.cert.Cert.{Cert}
use Rattle.dpl_cert.specs.declared.cert.Cert.TheVariants.{Masks, Conflict}
use Rattle.dpl_masks.specs.Bytes.{file_bytes}
use Rattle.dpl_law_outcome.specs.ReadBack.{most_slabs}
use Rattle.dpl_words.specs.Meaning.{AsksCheck, AsksSplit, CheckValues, SplitValues, request_of}
use Rattle.dpl_words.specs.Ranges.{AreInRangeForCheck, IsApart}
use Rattle.dpl_run.specs.declared.status.Status.{Status}
use Rattle.dpl_run.specs.declared.status.Status.TheVariants.{Done, Conflict as InConflict}
use Rattle.dpl_answer.specs.Flat.{Clashes, Flat, Painted, Paints}
use Rattle.dpl_run.specs.Outcome.{Outcome, carried_out, says}
use Rattle.dpl_run.specs.Program.{IsOutcome, IsPlan}
use Rattle.dpl_layer.specs.Reading.{limit}
use Rattle.dpl_decide.specs.Deciding.{Decides, IsDecision}
use Rattle.dpl_run.specs.Split.{certified, plan_of, split_marked, split_spacing}
use Rattle.dpl_texts.specs.Texts.{valid_line}

-- the same values, asked of `check`, which has no tiles and no workers
abbrev pub checking : SplitValues → CheckValues
checking v = record {
  layer = v.layer;
  datatype = v.datatype;
  rule = v.rule;
  overlap = v.overlap;
  corner = v.corner;
  top = v.top;
  a = v.a;
  b = v.b;
  mark_a = v.mark_a;
  mark_b = v.mark_b;
  input = v.input;
  output = v.output;
  certificate = v.certificate;
}

-- the certificate of a decomposition
abbrev pub cert_of : Flat → Cert
cert_of (Paints p) = Masks p.head p.pieces p.stitches p.gains
cert_of (Clashes x) = Conflict x.head x.cycle x.near

-- Both files that are written are no larger than what is read, and no mask has more slabs.
pub record AreSmall (v : SplitValues) (front : List ℕ) (p : Painted) : Type 0 where
  pub out : length (file_bytes front v.a v.b p.a p.b) ≤ limit
  pub cert : length (certified (cert_of (Paints p))) ≤ limit
  pub first : length p.a ≤ most_slabs
  pub second : length p.b ≤ most_slabs

-- what is written of a decomposition can be read again; of a conflict that is the certificate alone
abbrev pub CanBeRead : SplitValues → List ℕ → Flat → Type 0
CanBeRead v front (Paints p) = AreSmall v front p
CanBeRead v front (Clashes x) = length (certified (cert_of (Clashes x))) ≤ limit

-- the file is there, and its layer has this decomposition
abbrev pub IsDecided : SplitValues → Outside → List ℕ → Flat → Type 0
IsDecided v o front flat = (bytes : List ℕ) × (file_of o v.input ≡ Some bytes) × IsDecision v.fewer (split_marked v) (split_spacing v) v.overlap bytes (Decides front flat)

-- Where `split` is done or in conflict its file is decided, and what it does is what the decomposition asks for.
abbrev pub SplitsAreDecided : Type 0
SplitsAreDecided = (v : SplitValues) (o : Outside) (x : Outcome) → IsPlan (Some (AsksSplit v)) o.files x → (x.status ≡ Done) ⊎ (x.status ≡ InConflict)
    → (front : List ℕ) × (flat : Flat) × IsDecided v o front flat × (x ≡ plan_of v (Decides front flat))

-- With the files that `split` writes, `check` of the same values is done, and says that they are valid.
abbrev pub OwnFilesAreValid : Type 0
OwnFilesAreValid = (v : SplitValues) (o : Outside) (front : List ℕ) (flat : Flat) → AreInRangeForCheck (checking v) → IsApart (AsksSplit v)
    → IsDecided v o front flat → CanBeRead v front flat
    → IsPlan (Some (AsksCheck (checking v))) (carried_out (plan_of v (Decides front flat)) o).files (says Done (valid_line (cert_of flat)))

-- After a command line of `split`, one of `check` with the same values ends so.
abbrev pub OwnRunsAreValid : Type 0
OwnRunsAreValid = (v : SplitValues) (words others : List Text) (o : Outside) (front : List ℕ) (flat : Flat) (s t : Status)
    (new last : Option Outside) → request_of words ≡ Some (AsksSplit v)
    → request_of others ≡ Some (AsksCheck (checking v)) → IsDecided v o front flat → CanBeRead v front flat → IsOutcome words s (Some o) new → IsOutcome others t new last
    → (t ≡ Done) × (last ≡ option_map (with_said (valid_line (cert_of flat))) new)
