-- The reads of a run, one after another.
use Rattle.std.proofs.Common.{◌≡◌, sym, subst, refl, inl, inr, List, [], ℕ, Option, Some, None}
use Rattle.std.specs.Prelude.{◌⊎◌, IfSome}
use Rattle.std.proofs.lemmas.List.{append-nil}
use Rattle.std.proofs.lemmas.List.Elements.{All-nil}
use Rattle.dpl_host.specs.Calls.{AreReadsOf, Call, Logged, Read}
use Rattle.dpl_host.specs.Outside.{Outside}
use Rattle.dpl_host.proofs.Logs.{logged_both, logged_none, logged_weaker}
use Rattle.dpl_spec_split.specs.declared.Rect.{Rect}
use Rattle.dpl_cert.specs.declared.cert.Cert.{Cert}
use Rattle.dpl_cert.specs.Grammar.{IsText}
use Rattle.dpl_spec_verdict.specs.Masks.{IsOfMasks}
use Rattle.dpl_words.specs.Meaning.{AsksBatch, AsksCheck, AsksDemo, AsksEdit, AsksSplit, CheckValues, RequestValues}
use Rattle.dpl_layer.specs.Marked.{IsMarkedLayout, MarkedLayer}
use Rattle.dpl_run.specs.Calls.{AreReadsFor, AreReadsOfCert, AreReadsOfCheck, HasLayerIn, HasMasksCert}
use Rattle.dpl_run.specs.CallsMade.{AreReadsBehind}
use Rattle.dpl_run.specs.Check.{check_marked}
use Rattle.dpl_run.specs.Program.{IsSeen}

abbrev Log : Type 0
Log = Option (List Call)

-- ---- reads

pub no_calls : {log : Log} → Logged log log (λ calls. calls ≡ [])
no_calls {log} = logged_none log (λ calls. calls ≡ []) refl

pub out_unread : {log : Log} {v : CheckValues} {cert : Cert} → Logged log log (AreReadsBehind v cert)
out_unread {log} {v} {cert} = logged_none log (AreReadsBehind v cert) (record { of_out = inl refl })

pub out_reads : {before now : Log} {v : CheckValues} {cert : Cert} → IsOfMasks cert → Logged before now (AreReadsOf v.output) → Logged before now (AreReadsBehind v cert)
out_reads {before} {now} {v} {cert} of h = logged_weaker before now (AreReadsOf v.output) (AreReadsBehind v cert) (λ calls reads. record { of_out = inr (reads, of) }) h

pub cert_only : {told : Option Outside} {before now : Log} {v : CheckValues} → Logged before now (AreReadsOf v.certificate) → Logged before now (AreReadsOfCert v told)
cert_only {told} {before} {now} {v} h = logged_weaker before now (AreReadsOf v.certificate) (AreReadsOfCert v told)
    (λ calls reads. record { cert = calls; out = []; are = sym (append-nil calls); of_cert = reads; of_out = inl refl }) h

certifies : (told : Option Outside) (v : CheckValues) (text : List ℕ) (cert : Cert) → IsSeen told v.certificate (Some text) → IsText cert text → IsOfMasks cert
    → IfSome told (HasMasksCert v)
certifies None v text cert seen is of = tt
certifies (Some o) v text cert seen is of = (text, cert, seen.0, is, of)

out_of : (told : Option Outside) (v : CheckValues) (text : List ℕ) (cert : Cert) (calls : List Call) → IsSeen told v.certificate (Some text) → IsText cert text
    → (calls ≡ []) ⊎ (AreReadsOf v.output calls × IsOfMasks cert) → (calls ≡ []) ⊎ (AreReadsOf v.output calls × IfSome told (HasMasksCert v))
out_of told v text cert calls seen is (inl none) = inl none
out_of told v text cert calls seen is (inr (more, of)) = inr (more, certifies told v text cert seen is of)

pub cert_and_out : {told : Option Outside} {before mid now : Log} (v : CheckValues) (text : List ℕ) (cert : Cert)
    → IsSeen told v.certificate (Some text) → IsText cert text → Logged before mid (AreReadsOf v.certificate) → Logged mid now (AreReadsBehind v cert)
    → Logged before now (AreReadsOfCert v told)
cert_and_out {told} {before} {mid} {now} v text cert seen is first second = logged_both before mid now (AreReadsOf v.certificate) (AreReadsBehind v cert)
    (AreReadsOfCert v told) (λ xs ys reads more. record { cert = xs; out = ys; are = refl; of_cert = reads; of_out = out_of told v text cert ys seen is more.of_out }) first second

pub layout_only : {told : Option Outside} {before now : Log} {v : CheckValues} → Logged before now (AreReadsOf v.input) → Logged before now (AreReadsOfCheck v told)
layout_only {told} {before} {now} {v} h = logged_weaker before now (AreReadsOf v.input) (AreReadsOfCheck v told)
    (λ calls reads. record { layout = calls; more = []; are = sym (append-nil calls); of_layout = reads; of_more = inl refl }) h

has_layer : (told : Option Outside) (v : CheckValues) (bytes copied : List ℕ) (layer a b : List Rect) → IsSeen told v.input (Some bytes)
    → IsMarkedLayout (check_marked v) bytes (MarkedLayer copied layer a b) → IfSome told (HasLayerIn v)
has_layer None v bytes copied layer a b seen read = tt
has_layer (Some o) v bytes copied layer a b seen read = (bytes, copied, layer, a, b, seen.0, inr (seen.1, read))

pub layout_and_more : {told : Option Outside} {before mid now : Log} (v : CheckValues) (bytes copied : List ℕ) (layer a b : List Rect)
    → IsSeen told v.input (Some bytes) → IsMarkedLayout (check_marked v) bytes (MarkedLayer copied layer a b)
    → Logged before mid (AreReadsOf v.input) → Logged mid now (AreReadsOfCert v told) → Logged before now (AreReadsOfCheck v told)
layout_and_more {told} {before} {mid} {now} v bytes copied layer a b seen read first second = logged_both before mid now (AreReadsOf v.input) (AreReadsOfCert v told)
    (AreReadsOfCheck v told) (λ xs ys reads more. record {
      layout = xs;
      more = ys;
      are = refl;
      of_layout = reads;
      of_more = inr (more, has_layer told v bytes copied layer a b seen read);
    }) first second

-- no read at all, whatever was asked
no_reads_for : (request : Option RequestValues) (told : Option Outside) → AreReadsFor request told []
no_reads_for (Some (AsksSplit v)) told = All-nil (λ c. c ≡ Read v.input)
no_reads_for (Some (AsksCheck v)) told = record { layout = []; more = []; are = refl; of_layout = All-nil (λ c. c ≡ Read v.input); of_more = inl refl }
no_reads_for (Some (AsksDemo v)) told = refl
no_reads_for (Some (AsksBatch v)) told = All-nil (λ c. c ≡ Read v.input)
no_reads_for (Some (AsksEdit v)) told = record { layout = []; edits = []; are = refl; of_layout = All-nil (λ c. c ≡ Read v.input); of_edits = inl refl }
no_reads_for None told = refl

pub unread : (request : Option RequestValues) (told : Option Outside) {log : Log} → Logged log log (AreReadsFor request told)
unread request told {log} = logged_none log (AreReadsFor request told) (no_reads_for request told)

-- the reads of a request are those of the words that stand for it
pub reads_of_words : (asked : Option RequestValues) (request : RequestValues) (told : Option Outside) {before now : Log} → asked ≡ Some request
    → Logged before now (AreReadsFor (Some request) told) → Logged before now (AreReadsFor asked told)
reads_of_words asked request told {before} {now} is h = subst (λ (r : Option RequestValues). Logged before now (AreReadsFor r told)) (sym is) h
