-- What a check that is done has found.
use Rattle.std.proofs.Common.{◌≡◌, ◌∙◌, ap, sym, refl, subst, inl, inr, List, ℕ, Option, Some, None, codes}
use Rattle.std.specs.FinMap as files
use Rattle.dpl_host.specs.Outside.{Outside}
use Rattle.dpl_spec_split.specs.declared.Rect.{Rect}
use Rattle.dpl_spec_split.specs.declared.Spacing.{Spacing}
use Rattle.dpl_cert.specs.declared.name.Name.TheVariants.{TooLarge}
use Rattle.dpl_cert.specs.declared.cert.Head.{Head}
use Rattle.dpl_cert.specs.declared.cert.Gain.{Gain}
use Rattle.dpl_cert.specs.declared.cert.PieceLine.{PieceLine}
use Rattle.dpl_cert.specs.declared.cert.StitchLine.{StitchLine}
use Rattle.dpl_cert.specs.declared.cert.Cert.{Cert}
use Rattle.dpl_cert.specs.declared.cert.Cert.TheVariants.{Masks, Conflict, Fault}
use Rattle.dpl_cert.specs.Grammar.{IsCert, IsText}
use Rattle.dpl_spec_verdict.specs.declared.Verdict.{Verdict}
use Rattle.dpl_spec_verdict.specs.declared.Verdict.TheVariants.{Valid, Rules, WasFault, Counts, Cover, Overlap, SpacingA, SpacingB, Marked, Stitch, Piece, Gain as GainAt, Cycle}
use Rattle.dpl_spec_verdict.specs.Masks.{Claim, IsVerdictOfMasks}
use Rattle.dpl_spec_verdict.specs.Conflicts.{IsVerdictOfConflict}
use Rattle.dpl_law_verdict.proofs.Cycles.{there-is}
use Rattle.dpl_law_verdict.proofs.Flips.{none-fewer}
use Rattle.dpl_law_verdict.proofs.Lines.{good-lines}
use Rattle.dpl_law_verdict.proofs.Parting.{marks-kept, right-masks}
use Rattle.dpl_law_verdict.proofs.Passing.{valid-kept}
use Rattle.dpl_words.specs.Meaning.{CheckValues}
use Rattle.dpl_run.specs.Check.{IsCheck, IsCheckOfCert, IsCheckOfFile, IsCheckOfMasks, WithFile, check_marked, check_spacing, mask_choice, refusal_of, verdict_outcome, verdict_status}
use Rattle.dpl_run.specs.Checked.{HasLayer, HasMarkedLayer, HasRightMasks, IsRight, IsRightBy, NoFlipIsLeft}
use Rattle.dpl_run.specs.Outcome.{Outcome, says, silent}
use Rattle.dpl_layer.specs.Reading.{Choice, Faulty, IsReading, Layer, limit}
use Rattle.dpl_texts.specs.Texts.{bad_line_line}
use Rattle.dpl_layer.specs.Marked.{FaultyMarked, IsMarkedReading, MarkedChoice, MarkedLayer}
use Rattle.dpl_decide.specs.Deciding.{marks_for}
use Rattle.dpl_spec_split.specs.Marks.{Marks}
use Rattle.dpl_run.specs.declared.status.Status.{Status}
use Rattle.dpl_run.specs.declared.status.Status.TheVariants.{Done, Refused, ReadFault, CheckNo}

-- an outcome of another status isn't done
other : (x y : Outcome) (s : Status) → x ≡ y → y.status ≡ s → (s ≡ Done → ⊥) → x.status ≡ Done → ⊥
other x y s is named never done = never (sym named ∙ (sym (ap (λ (z : Outcome). z.status) is) ∙ done))

refused : Refused ≡ Done → ⊥
refused e = cc

unread : ReadFault ≡ Done → ⊥
unread e = cc

broken : CheckNo ≡ Done → ⊥
broken e = cc

-- only a valid verdict is done
valid_is : (w : Verdict) → verdict_status w ≡ Done → w ≡ Valid
valid_is Valid e = refl
valid_is (Rules r o c) e = absurd (broken e)
valid_is (WasFault name at) e = absurd (broken e)
valid_is (Counts f p z) e = absurd (broken e)
valid_is (Cover at) e = absurd (broken e)
valid_is (Overlap at) e = absurd (broken e)
valid_is (SpacingA p q) e = absurd (broken e)
valid_is (SpacingB p q) e = absurd (broken e)
valid_is (Marked at) e = absurd (broken e)
valid_is (Stitch k) e = absurd (broken e)
valid_is (Piece k) e = absurd (broken e)
valid_is (GainAt k) e = absurd (broken e)
valid_is (Cycle k) e = absurd (broken e)

judged_valid : (cert : Cert) (w : Verdict) (x : Outcome) → x ≡ verdict_outcome cert w → x.status ≡ Done → w ≡ Valid
judged_valid cert w x is done = valid_is w (sym (ap (λ (z : Outcome). z.status) is) ∙ done)

-- a layer that was read is the file's
layer_of_file : (choice : Choice) (bytes copied : List ℕ) (slabs : List Rect) → IsReading choice bytes (Layer copied slabs) → HasLayer choice bytes slabs
layer_of_file choice bytes copied slabs reading = elim reading [
  | inl large ↦ cc
  | inr read ↦ (let (lib, holds, l) = read.1 in record { lib = lib; holds = holds; top = l.top; is_top = l.is_top; faultless = l.faultless; squares = l.squares })
]

marked_of_file : (choice : MarkedChoice) (bytes copied : List ℕ) (slabs a b : List Rect) → IsMarkedReading choice bytes (MarkedLayer copied slabs a b)
    → HasMarkedLayer choice bytes slabs a b
marked_of_file choice bytes copied slabs a b reading = elim reading [
  | inl large ↦ cc
  | inr read ↦ (let (lib, holds, m) = read.1 in record {
    lib = lib;
    holds = holds;
    top = m.layer.top;
    is_top = m.layer.is_top;
    faultless = m.layer.faultless;
    squares = m.layer.squares;
    faultless_a = m.faultless_a;
    faultless_b = m.faultless_b;
    marked_a = m.marked_a;
    marked_b = m.marked_b;
  })
]

-- where gains are listed, no flip is left
none_left : (marks : Option Marks) (spacing : Spacing) (overlap : ℕ) (layer a b : List Rect) (head : Head) (pieces : List PieceLine) (stitches : List StitchLine) (gains : Option (List Gain))
    → IsCert (Masks head pieces stitches gains) → IsVerdictOfMasks marks spacing overlap layer a b (Masks head pieces stitches gains) Valid
    → NoFlipIsLeft marks spacing overlap layer pieces gains
none_left marks spacing overlap layer a b head pieces stitches None fits valid = tt
none_left marks spacing overlap layer a b head pieces stitches (Some lines) fits valid = none-fewer marks spacing overlap layer a b head pieces stitches lines fits valid

masks_right : (v : CheckValues) (marks : Option Marks) (layer : List Rect) (head : Head) (pieces : List PieceLine) (stitches : List StitchLine)
    (gains : Option (List Gain)) (bytes : List ℕ) (x : Outcome)
    → IsCert (Masks head pieces stitches gains) → IsCheckOfMasks v marks layer (Masks head pieces stitches gains) bytes x → x.status ≡ Done
    → HasRightMasks v marks layer head pieces stitches gains bytes
masks_right v marks layer head pieces stitches gains bytes x fits (Faulty name at, read, is) done = absurd (other x (refusal_of (codes "out") name at) Refused is refl refused done)
masks_right v marks layer head pieces stitches gains bytes x fits (Layer copied a, read, (Faulty name at, more, is)) done = absurd
    (other x (refusal_of (codes "out") name at) Refused is refl refused done)
masks_right v marks layer head pieces stitches gains bytes x fits (Layer copied a, read, (Layer back b, more, (w, said, is))) done =
    let valid : w ≡ Valid = judged_valid (Masks head pieces stitches gains) w x is done in
    let kept : IsVerdictOfMasks marks (check_spacing v) v.overlap layer a b (Masks head pieces stitches gains) Valid = subst
    (λ (u : Verdict). IsVerdictOfMasks marks (check_spacing v) v.overlap layer a b (Masks head pieces stitches gains) u) valid said in
    let claim : Claim = record { layer = layer; a = a; b = b; head = head; pieces = pieces; stitches = stitches; gains = gains } in
    record {
      a = a;
      b = b;
      first = layer_of_file (mask_choice v.a) bytes copied a read;
      second = layer_of_file (mask_choice v.b) bytes back b more;
      right = right-masks marks (check_spacing v) v.overlap claim kept;
      kept = marks-kept marks layer a b (valid-kept marks (check_spacing v) v.overlap claim kept).marked;
      lines = good-lines marks (check_spacing v) v.overlap layer a b head pieces stitches gains kept;
      flips = none_left marks (check_spacing v) v.overlap layer a b head pieces stitches gains fits kept;
    }

cert_right : (v : CheckValues) (o : Outside) (marks : Option Marks) (layer : List Rect) (out : Option (List ℕ)) (cert : Cert) (text : List ℕ) (x : Outcome)
    → files.get o.files v.output ≡ out → IsText cert text → IsCheckOfCert v marks layer out cert x → x.status ≡ Done → IsRightBy v o marks layer cert
cert_right v o marks layer None (Masks head pieces stitches gains) text x there t is done = absurd (other x (silent ReadFault) ReadFault is refl unread done)
cert_right v o marks layer (Some bytes) (Masks head pieces stitches gains) text x there t is done = (bytes, there, masks_right v marks layer head pieces stitches gains bytes x t.0 is done)
cert_right v o marks layer out (Conflict head cycle near) text x there t (w, said, is) done =
    let valid : w ≡ Valid = judged_valid (Conflict head cycle near) w x is done in
    let (fits, long, places, each, nears) = t.0 in
    there-is marks (check_spacing v) v.overlap (record { layer = layer; head = head; cycle = cycle; near = near }) long each
    (subst (λ (u : Verdict). IsVerdictOfConflict marks (check_spacing v) v.overlap layer (Conflict head cycle near) u) valid said)
cert_right v o marks layer out (Fault name at) text x there t is done = absurd (other x (verdict_outcome (Fault name at) (WasFault name at)) CheckNo is refl broken done)

-- what follows the layer of the layout
module _ (v : CheckValues) (o : Outside) (bytes : List ℕ) (layer a b : List Rect) (read : files.get o.files v.input ≡ Some bytes)
    (has : HasMarkedLayer (check_marked v) bytes layer a b) where
  abbrev marks : Option Marks
  marks = marks_for (check_marked v) a b

  layer_right : (cert out : Option (List ℕ)) (x : Outcome) → files.get o.files v.certificate ≡ cert → files.get o.files v.output ≡ out
      → WithFile cert (IsCheckOfFile v marks layer out) x → x.status ≡ Done → IsRight v o
  layer_right None out x told there is done = absurd (other x (silent ReadFault) ReadFault is refl unread done)
  layer_right (Some text) out x told there (inl (large, is)) done = absurd (other x (refusal_of (codes "cert") TooLarge limit) Refused is refl refused done)
  layer_right (Some text) out x told there (inr (small, inl (cert, t, is))) done = record {
    bytes = bytes;
    read = read;
    layer = layer;
    a = a;
    b = b;
    has = has;
    text = text;
    told = told;
    cert = cert;
    certifies = t;
    right = cert_right v o marks layer out cert text x there t is done;
  }
  layer_right (Some text) out x told there (inr (small, inr (n, bad, is))) done = absurd (other x (says Refused (bad_line_line (codes "cert") n)) Refused is refl refused done)

pub check_right : (v : CheckValues) (o : Outside) (layout cert out : Option (List ℕ)) (x : Outcome) → files.get o.files v.input ≡ layout
    → files.get o.files v.certificate ≡ cert → files.get o.files v.output ≡ out
    → IsCheck v layout cert out x → x.status ≡ Done → IsRight v o
check_right v o None cert out x read told there is done = absurd (other x (silent ReadFault) ReadFault is refl unread done)
check_right v o (Some bytes) cert out x read told there (FaultyMarked name at, found, is) done = absurd (other x (refusal_of (codes "in") name at) Refused is refl refused done)
check_right v o (Some bytes) cert out x read told there (MarkedLayer copied layer a b, found, is) done =
    layer_right v o bytes layer a b read (marked_of_file (check_marked v) bytes copied layer a b found) cert out x told there is done
