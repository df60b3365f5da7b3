-- The calls of a run are those of its answer.
use Rattle.std.proofs.Common.{◌≡◌, ◌∙◌, ◌++◌, ◌∷◌, ap, sym, subst, refl, inl, inr, true, List, [], ℕ, Option, Some, None, codes, map}
use Rattle.std.specs.Prelude.{◌⊎◌, IfSome}
use Rattle.std.specs.FinMap as files
use Rattle.std.specs.List.{AllZip, flat_map, zip}
use Rattle.std.proofs.lemmas.List.{append-nil, length-map, map-append}
use Rattle.clap.specs.Walk.{Text}
use Rattle.dpl_host.specs.Calls.{Call, Logged}
use Rattle.dpl_host.specs.Outside.{Outside, file_of}
use Rattle.dpl_cert.specs.declared.name.Name.TheVariants.{TooLarge}
use Rattle.dpl_host.proofs.Logs.{logged_both, logged_weaker}
use Rattle.dpl_words.specs.Meaning.{AsksBatch, AsksCheck, AsksDemo, AsksEdit, AsksSplit, BatchValues, EditValues, RequestValues, SplitValues, request_of}
use Rattle.dpl_run.specs.Batch.{IsBatchOf, split_of}
use Rattle.dpl_layer.specs.Reading.{Faulty, Layer, limit}
use Rattle.dpl_answer.specs.Flat.{Clashes, Flat, Paints}
use Rattle.dpl_decide.specs.Deciding.{Decides}
use Rattle.dpl_run.specs.Calls.{AreAnswersOf, AreCallsOf, AreFilesOfEdit, AreReadsFor, AreWritings, AreWritingsFor, AreWritingsOf, AreWritingsOfBatch, AreWritingsOfEdit}
use Rattle.dpl_run.specs.Calls.{BeginWritings, HasLayerToEdit, HasNoLayerToEdit, batch_files, files_written}
use Rattle.dpl_run.specs.Check.{refusal_of}
use Rattle.dpl_run.specs.Edit.{IsEditOf, split_by}
use Rattle.dpl_run.specs.CallsMade.{names_of}
use Rattle.dpl_run.specs.Outcome.{Outcome, Shows, is_answered, says}
use Rattle.dpl_run.specs.Program.{IsMade, IsPlan}
use Rattle.dpl_run.specs.Split.{IsSplit, IsSplitOf, plan_of, refusal}
use Rattle.dpl_texts.specs.Texts.{bad_line_line, usage_line}
use Rattle.dpl_run.specs.declared.status.Status.{Status}
use Rattle.dpl_run.specs.declared.status.Status.TheVariants.{Done, Conflict, Refused, Usage, ReadFault, WriteFault, NoMemory, CheckNo}
use Rattle.dpl_run.proofs.Parting.{as_named, check_writes, decided_files, demo_writes, silent_not}
use Rattle.dpl_decide.proofs.Zips.{zip_length}

abbrev Log : Type 0
Log = Option (List Call)

-- ---- the files of an outcome are those of its answer

split_files : (v : SplitValues) (file : Option (List ℕ)) (x : Outcome) → IsSplitOf v file x → is_answered x.status ≡ true
    → names_of x.writes ≡ files_written (Some (AsksSplit v)) x.status
split_files v None x is answered = absurd (silent_not x is answered)
split_files v (Some bytes) x is answered = as_named (Some (AsksSplit v)) x (plan_of v is.0) is.2 (decided_files v is.0)

-- an outcome that writes nothing
none_named : (x : Outcome) (names : List Text) → x.writes ≡ [] → names ≡ [] → names_of x.writes ≡ names
none_named x names none as_none = ap names_of none ∙ sym as_none

-- ---- the files of a batch are those of its layers' answers

each_files : (v : BatchValues) (bytes : List ℕ) (layers : List ℕ) (xs : List Outcome) → AllZip (λ layer x. IsSplit (split_of v layer) bytes x) layers xs
    → names_of (flat_map (λ (x : Outcome). x.writes) xs)
    ≡ flat_map (λ (p : ℕ × Status). files_written (Some (AsksSplit (split_of v p.0))) p.1) (zip layers (map (λ (x : Outcome). x.status) xs))
each_files v bytes [] [] all = refl
each_files v bytes [] (x ∷ xs) all = absurd all
each_files v bytes (layer ∷ layers) [] all = absurd all
each_files v bytes (layer ∷ layers) (x ∷ xs) all =
    let one = as_named (Some (AsksSplit (split_of v layer))) x (plan_of (split_of v layer) all.0.0) all.0.2 (decided_files (split_of v layer) all.0.0) in
    map-append (λ (w : Text × List ℕ). w.0) x.writes (flat_map (λ (y : Outcome). y.writes) xs)
    ∙ ap (λ names. names ++ names_of (flat_map (λ (y : Outcome). y.writes) xs)) one
    ∙ ap (λ names. files_written (Some (AsksSplit (split_of v layer))) x.status ++ names) (each_files v bytes layers xs all.1)

-- answers of all layers, and the files that they write
record AreFilesOf (v : BatchValues) (x : Outcome) : Type 0 where
  answers : List Status
  are : AreAnswersOf v x.status answers
  named : names_of x.writes ≡ batch_files v answers

batch_named : (v : BatchValues) (file : Option (List ℕ)) (x : Outcome) → IsBatchOf v file x → is_answered x.status ≡ true → AreFilesOf v x
batch_named v None x is answered = absurd (silent_not x is answered)
batch_named v (Some bytes) x (xs, all, is) answered = record {
  answers = map (λ (y : Outcome). y.status) xs;
  are = (length-map xs (λ (y : Outcome). y.status) ∙ zip_length _ v.layers xs all, ap (λ (y : Outcome). y.status) is);
  named = ap (λ (y : Outcome). names_of y.writes) is ∙ each_files v bytes v.layers xs all;
}

-- ---- the files of `edit` are those of its answer

-- what the outside shows is told, where it is told
as_shown : (told : Option Outside) (o : Outside) (P : Outside → Type 0) → Shows told o → P o → IfSome told P
as_shown None o P shows h = tt
as_shown (Some q) o P shows h = subst P (sym shows) h

as_files : (v : EditValues) (told : Option Outside) (x y : Outcome) → x ≡ y → AreFilesOfEdit v told y.status (names_of y.writes) → AreFilesOfEdit v told x.status (names_of x.writes)
as_files v told x y is h = subst (λ (z : Outcome). AreFilesOfEdit v told z.status (names_of z.writes)) (sym is) h

edited_files : (v : EditValues) (told : Option Outside) (copied : List ℕ) (flat : Flat)
    → AreFilesOfEdit v told (plan_of (split_by v) (Decides copied flat)).status (names_of (plan_of (split_by v) (Decides copied flat)).writes)
edited_files v told copied (Paints p) = refl
edited_files v told copied (Clashes c) = refl

edit_named : (v : EditValues) (told : Option Outside) (o : Outside) (layout text : Option (List ℕ)) (x : Outcome) → Shows told o → file_of o v.input ≡ layout
    → IsEditOf v layout text x → is_answered x.status ≡ true → AreFilesOfEdit v told x.status (names_of x.writes)
edit_named v told o None text x shows there is answered = absurd (silent_not x is answered)
edit_named v told o (Some bytes) text x shows there (Faulty name at, read, is) answered =
    as_files v told x (refusal (split_by v) name at) is (inl (refl, as_shown told o (HasNoLayerToEdit v) shows (bytes, name, at, there, read)))
edit_named v told o (Some bytes) None x shows there (Layer copied layer, read, is) answered = absurd (silent_not x is answered)
edit_named v told o (Some bytes) (Some text) x shows there (Layer copied layer, read, inl (large, is)) answered =
    as_files v told x (refusal_of (codes "edits") TooLarge limit) is (inr (refl, as_shown told o (HasLayerToEdit v) shows (bytes, copied, layer, there, read)))
edit_named v told o (Some bytes) (Some text) x shows there (Layer copied layer, read, inr (small, inr (n, bad, is))) answered =
    as_files v told x (says Refused (bad_line_line (codes "edits") n)) is (inr (refl, as_shown told o (HasLayerToEdit v) shows (bytes, copied, layer, there, read)))
edit_named v told o (Some bytes) (Some text) x shows there (Layer copied layer, read, inr (small, inl (es, listed, (after, squares, flat, decomposed, is)))) answered =
    as_files v told x (plan_of (split_by v) (Decides copied flat)) is (edited_files v told copied flat)

-- ---- what is written

answer_writes : (request : Option RequestValues) (s : Status) (calls : List Call) → is_answered s ≡ true → AreWritings (files_written request s) calls → AreWritingsOf request s calls
answer_writes request Done calls answered h = h
answer_writes request Conflict calls answered h = h
answer_writes request Refused calls answered h = h
answer_writes request Usage calls answered h = h
answer_writes request ReadFault calls answered h = cc
answer_writes request WriteFault calls answered h = cc
answer_writes request NoMemory calls answered h = cc
answer_writes request CheckNo calls answered h = h

batch_writes : (v : BatchValues) (s : Status) (answers : List Status) (calls : List Call) → is_answered s ≡ true → AreAnswersOf v s answers
    → AreWritings (batch_files v answers) calls → AreWritingsOfBatch v s calls
batch_writes v Done answers calls answered are h = (answers, are, h)
batch_writes v Conflict answers calls answered are h = (answers, are, h)
batch_writes v Refused answers calls answered are h = (answers, are, h)
batch_writes v Usage answers calls answered are h = (answers, are, h)
batch_writes v ReadFault answers calls answered are h = cc
batch_writes v WriteFault answers calls answered are h = cc
batch_writes v NoMemory answers calls answered are h = cc
batch_writes v CheckNo answers calls answered are h = (answers, are, h)

edit_writes : (v : EditValues) (told : Option Outside) (s : Status) (names : List Text) (calls : List Call) → is_answered s ≡ true → AreFilesOfEdit v told s names
    → AreWritings names calls → AreWritingsOfEdit v told s calls
edit_writes v told Done names calls answered are h = (names, are, h)
edit_writes v told Conflict names calls answered are h = (names, are, h)
edit_writes v told Refused names calls answered are h = (names, are, h)
edit_writes v told Usage names calls answered are h = (names, are, h)
edit_writes v told ReadFault names calls answered are h = cc
edit_writes v told WriteFault names calls answered are h = cc
edit_writes v told NoMemory names calls answered are h = cc
edit_writes v told CheckNo names calls answered are h = (names, are, h)

-- the files of an outcome, by the request
abbrev AreNamed : Option RequestValues → Option Outside → Outcome → Type 0
AreNamed (Some (AsksBatch v)) told x = AreFilesOf v x
AreNamed (Some (AsksEdit v)) told x = AreFilesOfEdit v told x.status (names_of x.writes)
AreNamed request told x = names_of x.writes ≡ files_written request x.status

plan_named : (request : Option RequestValues) (told : Option Outside) (o : Outside) (x : Outcome) → Shows told o → IsPlan request o.files x → is_answered x.status ≡ true
    → AreNamed request told x
plan_named None told o x shows is answered = as_named None x (says Usage usage_line) is refl
plan_named (Some (AsksSplit v)) told o x shows is answered = split_files v (files.get o.files v.input) x is answered
plan_named (Some (AsksCheck v)) told o x shows is answered = none_named x (files_written (Some (AsksCheck v)) x.status)
    (check_writes v (files.get o.files v.input) (files.get o.files v.certificate) (files.get o.files v.output) x is) refl
plan_named (Some (AsksDemo v)) told o x shows is answered =
    none_named x (files_written (Some (AsksDemo v)) x.status) (ap (λ (y : Outcome). y.writes) is.2 ∙ demo_writes is.0) refl
plan_named (Some (AsksBatch v)) told o x shows is answered = batch_named v (files.get o.files v.input) x is answered
plan_named (Some (AsksEdit v)) told o x shows is answered = edit_named v told o (files.get o.files v.input) (files.get o.files v.edits) x shows refl is answered

made_named : (request : Option RequestValues) (told : Option Outside) (x : Outcome) → IsMade request told x → AreNamed request told x
made_named request told x m = plan_named request told m.0 x m.1 m.2 m.3

alone_written : (request : Option RequestValues) (x : Outcome) (calls : List Call) → names_of x.writes ≡ files_written request x.status → is_answered x.status ≡ true
    → AreWritings (names_of x.writes) calls → AreWritingsOf request x.status calls
alone_written request x calls named answered h = answer_writes request x.status calls answered (subst (λ (names : List Text). AreWritings names calls) named h)

named_written : (request : Option RequestValues) (told : Option Outside) (x : Outcome) (calls : List Call) → AreNamed request told x → is_answered x.status ≡ true
    → AreWritings (names_of x.writes) calls → AreWritingsFor request told x.status calls
named_written None told x calls named answered h = alone_written None x calls named answered h
named_written (Some (AsksSplit v)) told x calls named answered h = alone_written (Some (AsksSplit v)) x calls named answered h
named_written (Some (AsksCheck v)) told x calls named answered h = alone_written (Some (AsksCheck v)) x calls named answered h
named_written (Some (AsksDemo v)) told x calls named answered h = alone_written (Some (AsksDemo v)) x calls named answered h
named_written (Some (AsksBatch v)) told x calls named answered h =
    batch_writes v x.status named.answers calls answered named.are (subst (λ (names : List Text). AreWritings names calls) named.named h)
named_written (Some (AsksEdit v)) told x calls named answered h = edit_writes v told x.status (names_of x.writes) calls answered named h

alone_begun : (request : Option RequestValues) (x : Outcome) (calls : List Call) → names_of x.writes ≡ files_written request x.status → is_answered x.status ≡ true
    → BeginWritings (names_of x.writes) calls → AreWritingsOf request WriteFault calls
alone_begun request x calls named answered h = (x.status, answered, subst (λ (names : List Text). BeginWritings names calls) named h)

named_begun : (request : Option RequestValues) (told : Option Outside) (x : Outcome) (calls : List Call) → AreNamed request told x → is_answered x.status ≡ true
    → BeginWritings (names_of x.writes) calls → AreWritingsFor request told WriteFault calls
named_begun None told x calls named answered h = alone_begun None x calls named answered h
named_begun (Some (AsksSplit v)) told x calls named answered h = alone_begun (Some (AsksSplit v)) x calls named answered h
named_begun (Some (AsksCheck v)) told x calls named answered h = alone_begun (Some (AsksCheck v)) x calls named answered h
named_begun (Some (AsksDemo v)) told x calls named answered h = alone_begun (Some (AsksDemo v)) x calls named answered h
named_begun (Some (AsksBatch v)) told x calls named answered h =
    (x.status, named.answers, answered, named.are, subst (λ (names : List Text). BeginWritings names calls) named.named h)
named_begun (Some (AsksEdit v)) told x calls named answered h = (x.status, names_of x.writes, answered, named, h)

-- ---- reads, and then writings

pub calls_of_answer : (words : List Text) (told : Option Outside) (x : Outcome) {before mid now : Log} → IsMade (request_of words) told x
    → Logged before mid (AreReadsFor (request_of words) told) → Logged mid now (AreWritings (names_of x.writes)) → Logged before now (AreCallsOf words told x.status)
calls_of_answer words told x {before} {mid} {now} made read wrote =
    let request = request_of words in
    logged_both before mid now (AreReadsFor request told) (AreWritings (names_of x.writes)) (AreCallsOf words told x.status)
    (λ xs ys reads writes. record {
      reads = xs;
      writings = ys;
      are = refl;
      read = reads;
      written = named_written request told x ys (made_named request told x made) made.3 writes;
    }) read wrote

pub calls_of_part : (words : List Text) (told : Option Outside) (x : Outcome) {before mid now : Log} → IsMade (request_of words) told x
    → Logged before mid (AreReadsFor (request_of words) told) → Logged mid now (BeginWritings (names_of x.writes)) → Logged before now (AreCallsOf words told WriteFault)
calls_of_part words told x {before} {mid} {now} made read wrote =
    let request = request_of words in
    logged_both before mid now (AreReadsFor request told) (BeginWritings (names_of x.writes)) (AreCallsOf words told WriteFault)
    (λ xs ys reads writes. record {
      reads = xs;
      writings = ys;
      are = refl;
      read = reads;
      written = named_begun request told x ys (made_named request told x made) made.3 writes;
    }) read wrote

-- where nothing was made, nothing was written
unwritten : (request : Option RequestValues) (told : Option Outside) → AreWritingsFor request told ReadFault [] × AreWritingsFor request told NoMemory []
unwritten None told = (refl, refl)
unwritten (Some (AsksSplit v)) told = (refl, refl)
unwritten (Some (AsksCheck v)) told = (refl, refl)
unwritten (Some (AsksDemo v)) told = (refl, refl)
unwritten (Some (AsksBatch v)) told = (refl, refl)
unwritten (Some (AsksEdit v)) told = (refl, refl)

none_written : (request : Option RequestValues) (told : Option Outside) (s : Status) → (s ≡ ReadFault) ⊎ (s ≡ NoMemory) → AreWritingsFor request told s []
none_written request told s (inl is) = subst (λ (t : Status). AreWritingsFor request told t []) (sym is) (unwritten request told).0
none_written request told s (inr is) = subst (λ (t : Status). AreWritingsFor request told t []) (sym is) (unwritten request told).1

pub calls_of_none : (words : List Text) (told : Option Outside) (s : Status) {before now : Log} → (s ≡ ReadFault) ⊎ (s ≡ NoMemory)
    → Logged before now (AreReadsFor (request_of words) told) → Logged before now (AreCallsOf words told s)
calls_of_none words told s {before} {now} which read = logged_weaker before now (AreReadsFor (request_of words) told) (AreCallsOf words told s)
    (λ calls reads. record {
      reads = calls;
      writings = [];
      are = sym (append-nil calls);
      read = reads;
      written = none_written (request_of words) told s which;
    }) read
