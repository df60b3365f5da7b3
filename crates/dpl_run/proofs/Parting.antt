-- A run that is done has parted its layer.
use Rattle.std.proofs.Common.{◌≡◌, ◌∙◌, ap, sym, refl, subst, inl, inr, Bool, true, false, is_some, List, [], ◌∷◌, ℕ, Option, Some, None, map, codes}
use Rattle.std.specs.List.{AllZip}
use Rattle.std.specs.FinMap as files
use Rattle.clap.specs.Walk.{Text}
use Rattle.dpl_spec_split.specs.declared.Spacing.{Spacing}
use Rattle.dpl_host.specs.Outside.{Outside}
use Rattle.dpl_spec_split.specs.declared.Rect.{Rect}
use Rattle.dpl_spec_split.specs.declared.Zone.{Zone}
use Rattle.dpl_spec_split.specs.Squares.{Covers}
use Rattle.dpl_spec_split.specs.Decomposition.{Cut, IsCut, Masks as Decomposed, cut_graph}
use Rattle.dpl_spec_fewer.specs.Masks.{AreMasksBy}
use Rattle.dpl_spec_split.specs.Summary.{HasOddCycle}
use Rattle.dpl_law_verdict.specs.Valid.{KeepMarks}
use Rattle.dpl_layer.specs.Marked.{FaultyMarked, IsMarkedLayout, IsMarkedReading, MarkedChoice, MarkedLayer}
use Rattle.dpl_spec_split.specs.Marks.{Marks}
use Rattle.dpl_law_split.specs.Masks.{OverlapAt, rect_at, rects_of}
use Rattle.dpl_law_split.proofs.Cover.{cover}
use Rattle.dpl_law_split.proofs.Lettering.{lettered, sound}
use Rattle.dpl_law_split.proofs.Fixed.{fixed-on-a, fixed-on-b}
use Rattle.dpl_law_split.proofs.Apart.{far-on-a, far-on-b}
use Rattle.dpl_law_split.proofs.Overlap.{overlap-at}
use Rattle.dpl_words.specs.Meaning.{AsksBatch, AsksCheck, AsksDemo, AsksEdit, AsksSplit, BatchValues, CheckValues, EditValues, RequestValues, SplitValues, request_of}
use Rattle.dpl_cert.specs.declared.cert.Cert.{Cert}
use Rattle.dpl_cert.specs.declared.cert.Cert.TheVariants.{Masks, Conflict as ConflictText, Fault}
use Rattle.dpl_cert.specs.declared.name.Name.TheVariants.{TooLarge}
use Rattle.dpl_spec_verdict.specs.declared.Verdict.TheVariants.{WasFault}
use Rattle.dpl_run.specs.Check.{IsCheck, IsCheckOfCert, IsCheckOfFile, IsCheckOfMasks, WithFile, check_marked, refusal_of, verdict_outcome}
use Rattle.dpl_run.specs.Demo.{demo_plan}
use Rattle.dpl_layer.specs.Reading.{Choice, Faulty, IsLayout, IsReading, Layer, limit}
use Rattle.dpl_answer.specs.Flat.{Clashes, IsFlat, IsPaintedCut, Painted, Paints}
use Rattle.dpl_law_verdict.specs.Own.{AreGainsBy, stitch_line}
use Rattle.dpl_cert.specs.declared.cert.Gain.{Gain}
use Rattle.dpl_run.specs.Batch.{IsBatchOf, split_of}
use Rattle.dpl_run.specs.Edit.{IsEditOf, edit_choice, split_by}
use Rattle.dpl_run.specs.Calls.{files_written}
use Rattle.dpl_run.specs.CallsMade.{names_of}
use Rattle.dpl_decide.specs.Deciding.{Decides, Decision, IsDecision, Refuses, marks_for}
use Rattle.dpl_run.specs.Split.{IsSplit, IsSplitOf, clash, painting, plan_of, refusal, split_marked, split_spacing}
use Rattle.dpl_run.specs.Program.{IsOutcome, IsPlan}
use Rattle.dpl_run.specs.Outcome.{Outcome, is_answered, says, silent}
use Rattle.dpl_texts.specs.Texts.{bad_line_line, usage_line}
use Rattle.dpl_run.specs.Parted.{ArePartingMasks, AreWrittenMasks, IsParted, IsPartedAlone, IsPartedBy, WritesEach, WritesEdited, WritesParting, rects_of_lines}
use Rattle.dpl_run.proofs.Judged.{check_right}
use Rattle.dpl_decide.proofs.Zips.{zip_weaker}
use Rattle.dpl_run.specs.declared.status.Status.{Status}
use Rattle.dpl_run.specs.declared.status.Status.TheVariants.{Done, Conflict, Refused, Usage, ReadFault}

-- the rectangles of stitch lines are those of their zones
line_rects : (zones : List Zone) (sides : List (ℕ × ℕ)) (ks : List ℕ) → rects_of_lines (map (stitch_line zones sides) ks) ≡ rects_of zones ks
line_rects zones sides [] = refl
line_rects zones sides (k ∷ ks) = ap (λ (rs : List Rect). rect_at zones k ∷ rs) (line_rects zones sides ks)

pub painted_parts : (fewer : Bool) (marks : Option Marks) (spacing : Spacing) (overlap : ℕ) (layer : List Rect) (cut : Cut) (p : Painted) → IsCut marks
    spacing overlap (Covers layer) cut → IsPaintedCut fewer marks spacing overlap cut p
    → ArePartingMasks spacing layer (rects_of_lines p.stitches) p.a p.b
painted_parts fewer marks spacing overlap layer cut p is painted =
    let m = painted.masks in
    let are = lettered fewer marks spacing cut m painted.are_masks in
    let apart = sound fewer marks spacing cut m painted.are_masks painted.even in
    subst (λ (q : Painted). ArePartingMasks spacing layer (rects_of_lines q.stitches) q.a q.b) (sym painted.is) (record {
      features = cut.features;
      are_features = is.features;
      cover = cover marks spacing overlap (Covers layer) cut m is are;
      apart_on_a = far-on-a marks spacing overlap (Covers layer) cut m is are apart;
      apart_on_b = far-on-b marks spacing overlap (Covers layer) cut m is are apart;
      overlap = subst (λ (ss : List Rect). OverlapAt ss m.a m.b) (sym (line_rects cut.zones cut.sides m.stitches)) (overlap-at marks spacing overlap (Covers layer) cut m is are);
    })

-- the marks of the layer are kept
masks_keep : (fewer : Bool) (marks : Option Marks) (spacing : Spacing) (overlap : ℕ) (layer : List Rect) (cut : Cut) (m : Decomposed) → IsCut marks spacing overlap (Covers layer) cut
    → AreMasksBy fewer marks spacing cut m → ¬ HasOddCycle (cut_graph marks spacing cut) → KeepMarks marks layer m.a m.b
masks_keep fewer None spacing overlap layer cut m is are even = record { on_a = λ p there marked. absurd marked; on_b = λ p there marked. absurd marked }
masks_keep fewer (Some k) spacing overlap layer cut m is are even =
    let masks = lettered fewer (Some k) spacing cut m are in
    let apart = sound fewer (Some k) spacing cut m are even in
    record {
      on_a = fixed-on-a k spacing overlap (Covers layer) cut m is masks apart;
      on_b = fixed-on-b k spacing overlap (Covers layer) cut m is masks apart;
    }

painted_keep : (fewer : Bool) (marks : Option Marks) (spacing : Spacing) (overlap : ℕ) (layer : List Rect) (cut : Cut) (p : Painted)
    → IsCut marks spacing overlap (Covers layer) cut → IsPaintedCut fewer marks spacing overlap cut p → KeepMarks marks layer p.a p.b
painted_keep fewer marks spacing overlap layer cut p is painted =
    subst (λ (q : Painted). KeepMarks marks layer q.a q.b) (sym painted.is)
    (masks_keep fewer marks spacing overlap layer cut painted.masks is painted.are_masks painted.even)

-- there are lines of gains exactly where fewer stitches are asked for
gains_told : (fewer : Bool) (marks : Option Marks) (spacing : Spacing) (cut : Cut) (letters : List Bool) (gains : Option (List Gain))
    → AreGainsBy fewer marks spacing cut letters gains → is_some gains ≡ fewer
gains_told false marks spacing cut letters None are = refl
gains_told false marks spacing cut letters (Some gains) are = absurd are
gains_told true marks spacing cut letters None are = absurd are
gains_told true marks spacing cut letters (Some gains) are = refl

-- what is written of a layer that is decomposed into masks
written_masks : (v : SplitValues) (marks : Option Marks) (copied : List ℕ) (layer : List Rect) (p : Painted) (writes : List (Text × List ℕ))
    → IsFlat v.fewer marks (split_spacing v) v.overlap layer (Paints p) → writes ≡ (painting v copied p).writes → AreWrittenMasks v marks copied layer writes
written_masks v marks copied layer p writes (cut, is_cut, painted) is = record {
  a = p.a;
  b = p.b;
  head = p.head;
  pieces = p.pieces;
  stitches = p.stitches;
  gains = p.gains;
  asked = ap (λ (q : Painted). is_some q.gains) painted.is ∙ gains_told v.fewer marks (split_spacing v) cut _ painted.gains painted.are_gains;
  parting = painted_parts v.fewer marks (split_spacing v) v.overlap layer cut p is_cut painted;
  kept = painted_keep v.fewer marks (split_spacing v) v.overlap layer cut p is_cut painted;
  are = is;
}

-- what was read of a file stands in it
held : (choice : Choice) (bytes copied : List ℕ) (layer : List Rect) → IsReading choice bytes (Layer copied layer) → IsLayout choice bytes (Layer copied layer)
held choice bytes copied layer reading = elim reading [ inl large ↦ cc | inr read ↦ read.1 ]

held_marked : (choice : MarkedChoice) (bytes copied : List ℕ) (layer a b : List Rect) → IsMarkedReading choice bytes (MarkedLayer copied layer a b)
    → IsMarkedLayout choice bytes (MarkedLayer copied layer a b)
held_marked choice bytes copied layer a b reading = elim reading [ inl large ↦ cc | inr read ↦ read.1 ]

paints : (v : SplitValues) (bytes copied : List ℕ) (p : Painted) (x : Outcome) → IsDecision v.fewer (split_marked v) (split_spacing v) v.overlap bytes
    (Decides copied (Paints p)) → x ≡ painting v copied p → WritesParting v bytes x.writes
paints v bytes copied p x d is =
    let (layer, on_a, on_b, reading, flat) = d in
    let (lib, holds, l) = held_marked (split_marked v) bytes copied layer on_a on_b reading in
    record {
      lib = lib;
      holds = holds;
      top = l.layer.top;
      is_top = l.layer.is_top;
      faultless = l.layer.faultless;
      layer = layer;
      squares = l.layer.squares;
      marked_a = on_a;
      marked_b = on_b;
      faultless_a = l.faultless_a;
      faultless_b = l.faultless_b;
      on_a = l.marked_a;
      on_b = l.marked_b;
      copied = copied;
      before = l.layer.before;
      masks = written_masks v (marks_for (split_marked v) on_a on_b) copied layer p x.writes flat (ap (λ (y : Outcome). y.writes) is);
    }

pub silent_not : (x : Outcome) → x ≡ silent ReadFault → is_answered x.status ≡ true → ⊥
silent_not x is answered = let e : false ≡ true = sym (ap (λ (y : Outcome). is_answered y.status) is) ∙ answered in cc

-- other answers than that it is done
refused_not : Refused ≡ Done → ⊥
refused_not e = cc

conflict_not : Conflict ≡ Done → ⊥
conflict_not e = cc

read_not : ReadFault ≡ Done → ⊥
read_not e = cc

status_as : (x y : Outcome) (s : Status) → x ≡ y → y.status ≡ s → x.status ≡ Done → s ≡ Done
status_as x y s is named done = sym named ∙ sym (ap (λ (z : Outcome). z.status) is) ∙ done

decided_done : (v : SplitValues) (bytes : List ℕ) (d : Decision) (x : Outcome) → IsDecision v.fewer (split_marked v) (split_spacing v) v.overlap bytes d
    → x ≡ plan_of v d → x.status ≡ Done → WritesParting v bytes x.writes
decided_done v bytes (Refuses name at) x d is done = absurd (refused_not (status_as x (refusal v name at) Refused is refl done))
decided_done v bytes (Decides copied (Clashes c)) x d is done = absurd (conflict_not (status_as x (clash v c) Conflict is refl done))
decided_done v bytes (Decides copied (Paints p)) x d is done = paints v bytes copied p x d is

file_done : (v : SplitValues) (file : Option (List ℕ)) (x : Outcome) → IsSplitOf v file x → x.status ≡ Done
    → (bytes : List ℕ) × (file ≡ Some bytes) × WritesParting v bytes x.writes
file_done v None x is done = absurd (read_not (status_as x (silent ReadFault) ReadFault is refl done))
file_done v (Some bytes) x is done = (bytes, refl, decided_done v bytes is.0 x is.1 is.2 done)

-- the edited layer is parted
edit_done : (v : EditValues) (o : Outside) (layout text : Option (List ℕ)) (x : Outcome) → files.get o.files v.input ≡ layout → files.get o.files v.edits ≡ text
    → IsEditOf v layout text x → x.status ≡ Done → WritesEdited v o x.writes
edit_done v o None text x there told is done = absurd (read_not (status_as x (silent ReadFault) ReadFault is refl done))
edit_done v o (Some bytes) text x there told (Faulty name at, reading, is) done = absurd (refused_not (status_as x (refusal (split_by v) name at) Refused is refl done))
edit_done v o (Some bytes) None x there told (Layer copied layer, reading, is) done = absurd (read_not (status_as x (silent ReadFault) ReadFault is refl done))
edit_done v o (Some bytes) (Some text) x there told (Layer copied layer, reading, inl (large, is)) done = absurd
    (refused_not (status_as x (refusal_of (codes "edits") TooLarge limit) Refused is refl done))
edit_done v o (Some bytes) (Some text) x there told (Layer copied layer, reading, inr (small, inr (n, bad, is))) done = absurd
    (refused_not (status_as x (says Refused (bad_line_line (codes "edits") n)) Refused is refl done))
edit_done v o (Some bytes) (Some text) x there told (Layer copied layer, reading, inr (small, inl (es, listed, (after, squares, Clashes c, flat, is)))) done = absurd
    (conflict_not (status_as x (clash (split_by v) c) Conflict is refl done))
edit_done v o (Some bytes) (Some text) x there told (Layer copied layer, reading, inr (small, inl (es, listed, (after, squares, Paints p, flat, is)))) done =
    let (lib, holds, is_layer) = held (edit_choice v) bytes copied layer reading in
    record {
      bytes = bytes;
      read = there;
      lib = lib;
      holds = holds;
      copied = copied;
      layer = layer;
      is_layer = is_layer;
      text = text;
      told = told;
      edits = es;
      listed = listed;
      after = after;
      squares = squares;
      masks = written_masks (split_by v) None copied after p x.writes flat (ap (λ (y : Outcome). y.writes) is);
    }

pub demo_writes : (d : Decision) → (demo_plan d).writes ≡ []
demo_writes (Refuses name at) = refl
demo_writes (Decides copied (Paints p)) = refl
demo_writes (Decides copied (Clashes c)) = refl

writes_as : (x y : Outcome) → x ≡ y → y.writes ≡ [] → x.writes ≡ []
writes_as x y is none = ap (λ (z : Outcome). z.writes) is ∙ none

masks_write : (v : CheckValues) (marks : Option Marks) (layer : List Rect) (cert : Cert) (bytes : List ℕ) (x : Outcome) → IsCheckOfMasks v marks layer cert bytes x → x.writes ≡ []
masks_write v marks layer cert bytes x (Faulty name at, read, is) = writes_as x (refusal_of (codes "out") name at) is refl
masks_write v marks layer cert bytes x (Layer copied a, read, (Faulty name at, other, is)) = writes_as x (refusal_of (codes "out") name at) is refl
masks_write v marks layer cert bytes x (Layer copied a, read, (Layer back b, other, (w, said, is))) = writes_as x (verdict_outcome cert w) is refl

cert_writes : (v : CheckValues) (marks : Option Marks) (layer : List Rect) (out : Option (List ℕ)) (cert : Cert) (x : Outcome) → IsCheckOfCert v marks layer out cert x → x.writes ≡ []
cert_writes v marks layer None (Masks h ps ss gs) x is = writes_as x (silent ReadFault) is refl
cert_writes v marks layer (Some bytes) (Masks h ps ss gs) x is = masks_write v marks layer (Masks h ps ss gs) bytes x is
cert_writes v marks layer out (ConflictText h cs ns) x (w, said, is) = writes_as x (verdict_outcome (ConflictText h cs ns) w) is refl
cert_writes v marks layer out (Fault name at) x is = writes_as x (verdict_outcome (Fault name at) (WasFault name at)) is refl

layer_writes : (v : CheckValues) (marks : Option Marks) (layer : List Rect) (cert out : Option (List ℕ)) (x : Outcome) → WithFile cert (IsCheckOfFile v marks layer out) x → x.writes ≡ []
layer_writes v marks layer None out x is = writes_as x (silent ReadFault) is refl
layer_writes v marks layer (Some text) out x (inl (large, is)) = writes_as x (refusal_of (codes "cert") TooLarge limit) is refl
layer_writes v marks layer (Some text) out x (inr (small, inl (cert, read, is))) = cert_writes v marks layer out cert x is
layer_writes v marks layer (Some text) out x (inr (small, inr (n, bad, is))) = writes_as x (says Refused (bad_line_line (codes "cert") n)) is refl

-- `check` writes nothing
pub check_writes : (v : CheckValues) (layout cert out : Option (List ℕ)) (x : Outcome) → IsCheck v layout cert out x → x.writes ≡ []
check_writes v None cert out x is = writes_as x (silent ReadFault) is refl
check_writes v (Some bytes) cert out x (FaultyMarked name at, read, is) = writes_as x (refusal_of (codes "in") name at) is refl
check_writes v (Some bytes) cert out x (MarkedLayer copied layer a b, read, is) = layer_writes v (marks_for (check_marked v) a b) layer cert out x is

-- ---- the files of an outcome are those of its answer

pub as_named : (request : Option RequestValues) (x y : Outcome) → x ≡ y → names_of y.writes ≡ files_written request y.status → names_of x.writes ≡ files_written request x.status
as_named request x y is h = subst (λ (z : Outcome). names_of z.writes ≡ files_written request z.status) (sym is) h

pub decided_files : (v : SplitValues) (d : Decision) → names_of (plan_of v d).writes ≡ files_written (Some (AsksSplit v)) (plan_of v d).status
decided_files v (Refuses name at) = refl
decided_files v (Decides copied (Paints p)) = refl
decided_files v (Decides copied (Clashes c)) = refl

-- each layer of a batch
each_named : (v : BatchValues) (bytes : List ℕ) (layers : List ℕ) (xs : List Outcome) → AllZip (λ layer x. IsSplit (split_of v layer) bytes x) layers xs
    → AllZip (λ layer x. names_of x.writes ≡ files_written (Some (AsksSplit (split_of v layer))) x.status) layers xs
each_named v bytes layers xs all = zip_weaker _ _ layers xs
    (λ layer x is. as_named (Some (AsksSplit (split_of v layer))) x (plan_of (split_of v layer) is.0) is.2 (decided_files (split_of v layer) is.0)) all

each_parted : (v : BatchValues) (o : Outside) (bytes : List ℕ) → files.get o.files v.input ≡ Some bytes → (layers : List ℕ) (xs : List Outcome)
    → AllZip (λ layer x. IsSplit (split_of v layer) bytes x) layers xs → AllZip (λ layer x. IsPartedAlone (split_of v layer) x.status o x.writes) layers xs
each_parted v o bytes there layers xs all = zip_weaker _ _ layers xs
    (λ layer x is done. record { bytes = bytes; read = there; parted = decided_done (split_of v layer) bytes is.0 x is.1 is.2 done }) all

batch_parted : (v : BatchValues) (o : Outside) (file : Option (List ℕ)) (x : Outcome) → files.get o.files v.input ≡ file → IsBatchOf v file x → is_answered x.status ≡ true
    → WritesEach v x.status o x.writes
batch_parted v o None x there is answered = absurd (silent_not x is answered)
batch_parted v o (Some bytes) x there (xs, all, is) answered = record {
  each = xs;
  answer = ap (λ (y : Outcome). y.status) is;
  are = ap (λ (y : Outcome). y.writes) is;
  named = each_named v bytes v.layers xs all;
  parted = each_parted v o bytes there v.layers xs all;
}

plan_parted : (request : Option RequestValues) (o : Outside) (x : Outcome) → IsPlan request o.files x → is_answered x.status ≡ true → IsPartedBy request x.status o x.writes
plan_parted None o x is answered = (writes_as x (says Usage usage_line) is refl, ap (λ (y : Outcome). y.status) is)
plan_parted (Some (AsksSplit v)) o x is answered = λ done.
    (let (bytes, there, parted) = file_done v (files.get o.files v.input) x is done in
    record { bytes = bytes; read = there; parted = parted })
plan_parted (Some (AsksCheck v)) o x is answered = (
  check_writes v (files.get o.files v.input) (files.get o.files v.certificate) (files.get o.files v.output) x is,
  λ done. check_right v o (files.get o.files v.input) (files.get o.files v.certificate) (files.get o.files v.output) x refl refl refl is done,
)
plan_parted (Some (AsksDemo v)) o x is answered = ap (λ (y : Outcome). y.writes) is.2 ∙ demo_writes is.0
plan_parted (Some (AsksEdit v)) o x is answered = λ done. edit_done v o (files.get o.files v.input) (files.get o.files v.edits) x refl refl is done
plan_parted (Some (AsksBatch v)) o x is answered = batch_parted v o (files.get o.files v.input) x refl is answered

-- an outcome that is an answer
pub outcome_parted : (words : List Text) (status : Status) (old new : Option Outside) → IsOutcome words status old new → is_answered status ≡ true → IsParted words status old new
outcome_parted words status old new outcome answered =
    let (o, shows, (x, plan, same, is)) = outcome in
    let parted = plan_parted (request_of words) o x plan (sym (ap is_answered same) ∙ answered) in
    (o, shows, (x, subst (λ (s : Status). IsPartedBy (request_of words) s o x.writes) (sym same) parted, is))
