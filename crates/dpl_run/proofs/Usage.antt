-- Usage is the answer to no request.
use Rattle.std.proofs.Common.{◌≡◌, ◌∙◌, ap, sym, refl, inl, inr, List, ℕ, Option, Some, None, codes}
use Rattle.std.specs.FinMap as files
use Rattle.dpl_host.specs.Outside.{Outside}
use Rattle.dpl_spec_split.specs.declared.Rect.{Rect}
use Rattle.dpl_spec_split.specs.Marks.{Marks}
use Rattle.dpl_cert.specs.declared.cert.Cert.{Cert}
use Rattle.dpl_cert.specs.declared.cert.Cert.TheVariants.{Masks, Conflict as ConflictText, Fault}
use Rattle.dpl_cert.specs.declared.name.Name.TheVariants.{TooLarge}
use Rattle.dpl_spec_verdict.specs.declared.Verdict.{Verdict}
use Rattle.dpl_spec_verdict.specs.declared.Verdict.TheVariants.{Valid, Rules, WasFault, Counts, Cover, Overlap, SpacingA, SpacingB, Marked, Stitch, Piece, Gain, Cycle}
use Rattle.dpl_words.specs.Meaning.{AsksBatch, AsksCheck, AsksDemo, AsksEdit, AsksSplit, BatchValues, CheckValues, EditValues, RequestValues, SplitValues}
use Rattle.dpl_layer.specs.Marked.{FaultyMarked, MarkedLayer}
use Rattle.dpl_layer.specs.Reading.{Faulty, Layer, limit}
use Rattle.dpl_answer.specs.Flat.{Clashes, Paints}
use Rattle.dpl_run.specs.Batch.{IsBatchOf}
use Rattle.dpl_run.specs.Edit.{IsEditOf, split_by}
use Rattle.dpl_run.specs.Check.{IsCheck, IsCheckOfCert, IsCheckOfFile, IsCheckOfMasks, WithFile, check_marked, refusal_of, verdict_outcome, verdict_status}
use Rattle.dpl_run.specs.Demo.{demo_plan}
use Rattle.dpl_run.specs.Outcome.{Outcome, says, silent}
use Rattle.dpl_run.specs.Program.{IsMade, IsPlan}
use Rattle.dpl_decide.specs.Deciding.{Decides, Decision, Refuses, marks_for}
use Rattle.dpl_run.specs.Split.{IsSplitOf, plan_of, refusal}
use Rattle.dpl_texts.specs.Texts.{bad_line_line}
use Rattle.dpl_run.specs.declared.status.Status.{Status}
use Rattle.dpl_run.specs.declared.status.Status.TheVariants.{Refused, ReadFault, Usage}
use Rattle.dpl_run.proofs.Batches.{batch_keeps}

abbrev IsOther : Status → Type 0
IsOther s = s ≡ Usage → ⊥

-- an outcome that another one is
as_other : (x y : Outcome) → x ≡ y → IsOther y.status → IsOther x.status
as_other x y is other usage = other (sym (ap (λ (z : Outcome). z.status) is) ∙ usage)

refused_other : IsOther Refused
refused_other e = cc

read_other : IsOther ReadFault
read_other e = cc

decided_other : (v : SplitValues) (d : Decision) → IsOther (plan_of v d).status
decided_other v (Refuses name at) e = cc
decided_other v (Decides copied (Paints p)) e = cc
decided_other v (Decides copied (Clashes x)) e = cc

shown_other : (d : Decision) → IsOther (demo_plan d).status
shown_other (Refuses name at) e = cc
shown_other (Decides copied (Paints p)) e = cc
shown_other (Decides copied (Clashes x)) e = cc

split_other : (v : SplitValues) (file : Option (List ℕ)) (x : Outcome) → IsSplitOf v file x → IsOther x.status
split_other v None x is = as_other x (silent ReadFault) is read_other
split_other v (Some bytes) x is = as_other x (plan_of v is.0) is.2 (decided_other v is.0)

batch_other : (v : BatchValues) (file : Option (List ℕ)) (x : Outcome) → IsBatchOf v file x → IsOther x.status
batch_other v None x is = as_other x (silent ReadFault) is read_other
batch_other v (Some bytes) x is = batch_keeps IsOther (λ e. cc) (λ e. cc) refused_other v bytes x is

edit_other : (v : EditValues) (layout text : Option (List ℕ)) (x : Outcome) → IsEditOf v layout text x → IsOther x.status
edit_other v None text x is = as_other x (silent ReadFault) is read_other
edit_other v (Some bytes) text x (Faulty name at, read, is) = as_other x (refusal (split_by v) name at) is refused_other
edit_other v (Some bytes) None x (Layer copied layer, read, is) = as_other x (silent ReadFault) is read_other
edit_other v (Some bytes) (Some text) x (Layer copied layer, read, inl (large, is)) = as_other x (refusal_of (codes "edits") TooLarge limit) is refused_other
edit_other v (Some bytes) (Some text) x (Layer copied layer, read, inr (small, inr (n, bad, is))) = as_other x (says Refused (bad_line_line (codes "edits") n)) is refused_other
edit_other v (Some bytes) (Some text) x (Layer copied layer, read, inr (small, inl (es, listed, (after, squares, flat, decomposed, is)))) =
    as_other x (plan_of (split_by v) (Decides copied flat)) is (decided_other (split_by v) (Decides copied flat))

verdict_other : (w : Verdict) → IsOther (verdict_status w)
verdict_other Valid e = cc
verdict_other (Rules rule overlap corner) e = cc
verdict_other (WasFault name at) e = cc
verdict_other (Counts features pieces zones) e = cc
verdict_other (Cover at) e = cc
verdict_other (Overlap at) e = cc
verdict_other (SpacingA p q) e = cc
verdict_other (SpacingB p q) e = cc
verdict_other (Marked at) e = cc
verdict_other (Stitch k) e = cc
verdict_other (Piece k) e = cc
verdict_other (Gain k) e = cc
verdict_other (Cycle k) e = cc

masks_other : (v : CheckValues) (marks : Option Marks) (layer : List Rect) (cert : Cert) (bytes : List ℕ) (x : Outcome) → IsCheckOfMasks v marks layer cert bytes x → IsOther x.status
masks_other v marks layer cert bytes x (Faulty name at, read, is) = as_other x (refusal_of (codes "out") name at) is refused_other
masks_other v marks layer cert bytes x (Layer copied a, read, (Faulty name at, other, is)) = as_other x (refusal_of (codes "out") name at) is refused_other
masks_other v marks layer cert bytes x (Layer copied a, read, (Layer back b, other, (w, said, is))) = as_other x (verdict_outcome cert w) is (verdict_other w)

cert_other : (v : CheckValues) (marks : Option Marks) (layer : List Rect) (out : Option (List ℕ)) (cert : Cert) (x : Outcome) → IsCheckOfCert v marks layer out cert x → IsOther x.status
cert_other v marks layer None (Masks h ps ss gs) x is = as_other x (silent ReadFault) is read_other
cert_other v marks layer (Some bytes) (Masks h ps ss gs) x is = masks_other v marks layer (Masks h ps ss gs) bytes x is
cert_other v marks layer out (ConflictText h cs ns) x (w, said, is) = as_other x (verdict_outcome (ConflictText h cs ns) w) is (verdict_other w)
cert_other v marks layer out (Fault name at) x is = as_other x (verdict_outcome (Fault name at) (WasFault name at)) is (verdict_other (WasFault name at))

layer_other : (v : CheckValues) (marks : Option Marks) (layer : List Rect) (cert out : Option (List ℕ)) (x : Outcome) → WithFile cert (IsCheckOfFile v marks layer out) x → IsOther x.status
layer_other v marks layer None out x is = as_other x (silent ReadFault) is read_other
layer_other v marks layer (Some text) out x (inl (large, is)) = as_other x (refusal_of (codes "cert") TooLarge limit) is refused_other
layer_other v marks layer (Some text) out x (inr (small, inl (cert, read, is))) = cert_other v marks layer out cert x is
layer_other v marks layer (Some text) out x (inr (small, inr (n, bad, is))) = as_other x (says Refused (bad_line_line (codes "cert") n)) is refused_other

check_other : (v : CheckValues) (layout cert out : Option (List ℕ)) (x : Outcome) → IsCheck v layout cert out x → IsOther x.status
check_other v None cert out x is = as_other x (silent ReadFault) is read_other
check_other v (Some bytes) cert out x (FaultyMarked name at, read, is) = as_other x (refusal_of (codes "in") name at) is refused_other
check_other v (Some bytes) cert out x (MarkedLayer copied layer a b, read, is) = layer_other v (marks_for (check_marked v) a b) layer cert out x is

plan_asked : (request : Option RequestValues) (o : Outside) (x : Outcome) → IsPlan request o.files x → x.status ≡ Usage → request ≡ None
plan_asked None o x is usage = refl
plan_asked (Some (AsksSplit v)) o x is usage = absurd (split_other v (files.get o.files v.input) x is usage)
plan_asked (Some (AsksCheck v)) o x is usage = absurd (check_other v (files.get o.files v.input) (files.get o.files v.certificate) (files.get o.files v.output) x is usage)
plan_asked (Some (AsksDemo v)) o x is usage = absurd (as_other x (demo_plan is.0) is.2 (shown_other is.0) usage)
plan_asked (Some (AsksEdit v)) o x is usage = absurd (edit_other v (files.get o.files v.input) (files.get o.files v.edits) x is usage)
plan_asked (Some (AsksBatch v)) o x is usage = absurd (batch_other v (files.get o.files v.input) x is usage)

-- what was made ends in usage only where nothing was asked for
pub usage_asked : (request : Option RequestValues) (told : Option Outside) (x : Outcome) → IsMade request told x → x.status ≡ Usage → request ≡ None
usage_asked request told x m usage = plan_asked request m.0 x m.2 usage
