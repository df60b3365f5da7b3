-- What is made of the files of `check`.
use Rattle.std.proofs.Common.{◌≡◌, ◌∙◌, ◌<◌, ◌≤◌, ap, sym, refl, subst, inl, inr, Bool, true, false, true≢false, cond, not, List, ℕ, Option, Some, None, length, arith, codes}
use Rattle.std.specs.FinMap as map
use Rattle.std.proofs.Common.{Ordering}
use Rattle.std.specs.declared.cmp.Ordering.TheVariants.{Less, Equal, Greater}
use Rattle.std.specs.Ordering.{is_eq, nat_cmp}
use Rattle.std.specs.Cmp.Lexicographic.{nat_list_cmp_total, slice_cmp}
use Rattle.std.specs.Str.{bytes_eq}
use Rattle.std.proofs.lemmas.Slice.Eq.{bytes_eq-Decides}
use Rattle.clap.specs.Walk.{Text}
use Rattle.clap.proofs.WalkLemmas.{both}
use Rattle.dpl_host.specs.Outside.{Outside, file_of, with_file}
use Rattle.dpl_host.proofs.Files.{exact_names, file_put}
use Rattle.dpl_spec_split.specs.declared.Rect.{Rect}
use Rattle.dpl_cert.specs.declared.name.Name.{Name}
use Rattle.dpl_cert.specs.declared.name.Name.TheVariants.{TooLarge}
use Rattle.dpl_cert.specs.declared.cert.Cert.{Cert}
use Rattle.dpl_cert.specs.declared.cert.Cert.TheVariants.{Masks, Conflict, Fault}
use Rattle.dpl_cert.specs.Grammar.{IsText}
use Rattle.dpl_parse.specs.Reading.{IsBadLine}
use Rattle.dpl_spec_verdict.specs.declared.Verdict.{Verdict}
use Rattle.dpl_spec_verdict.specs.declared.Verdict.TheVariants.{Valid, Rules, WasFault, Counts, Cover, Overlap, SpacingA, SpacingB, Marked, Stitch, Piece, Gain, Cycle}
use Rattle.dpl_spec_verdict.specs.Masks.{IsOfMasks, IsVerdictOfMasks}
use Rattle.dpl_spec_verdict.specs.Conflicts.{IsOfConflict, IsVerdictOfConflict}
use Rattle.dpl_words.specs.Meaning.{AsksCheck, CheckValues}
use Rattle.dpl_words.specs.Ranges.{IsApart}
use Rattle.dpl_run.specs.Check.{IsCheck, IsCheckOfCert, IsCheckOfMasks, check_marked, check_spacing, mask_choice, refusal_of, verdict_outcome, verdict_status}
use Rattle.dpl_run.specs.Outcome.{Outcome, is_answered, says}
use Rattle.dpl_run.specs.Program.{IsMade, IsMadeOfCert, IsMadeOfLayer, IsSeen, IsTold}
use Rattle.dpl_layer.specs.Reading.{Faulty, IsLayout, Layer, limit}
use Rattle.dpl_layer.specs.Marked.{FaultyMarked, IsMarkedLayout, MarkedLayer}
use Rattle.dpl_decide.specs.Deciding.{marks_for}
use Rattle.dpl_spec_split.specs.Marks.{Marks}
use Rattle.dpl_texts.specs.Texts.{bad_line_line}
use Rattle.dpl_run.specs.declared.status.Status.TheVariants.{Refused}
use Rattle.dpl_run.proofs.Inputs.{length-zeros, nothing, zeros}

-- ---- an outside with three files

not_same : (r : Ordering) → (r ≡ Equal → ⊥) → is_eq r ≡ false
not_same Less h = refl
not_same Equal h = absurd (h refl)
not_same Greater h = refl

-- another file stays
pub put_other : (o : Outside) (name bytes other : Text) → (other ≡ name → ⊥) → file_of (with_file name bytes o) other ≡ file_of o other
put_other o name bytes other apart =
    map.get-insert nat_list_cmp_total o.files name bytes other
    ∙ ap (λ (b : Bool). cond b (Some bytes) (map.get o.files other)) (not_same (slice_cmp nat_cmp other name) (λ e. apart (exact_names other name e)))

pub with_if : Text → Option (List ℕ) → Outside → Outside
with_if name None o = o
with_if name (Some bytes) o = with_file name bytes o

pub if_put : (name : Text) (file : Option (List ℕ)) (o : Outside) → file_of o name ≡ None → file_of (with_if name file o) name ≡ file
unfolding with_if
if_put name None o gone = gone
if_put name (Some bytes) o gone = file_put o name bytes

pub if_other : (name : Text) (file : Option (List ℕ)) (o : Outside) (other : Text) → (other ≡ name → ⊥) → file_of (with_if name file o) other ≡ file_of o other
unfolding with_if
if_other name None o other apart = refl
if_other name (Some bytes) o other apart = put_other o name bytes other apart

pub none : (name : Text) → file_of nothing name ≡ None
none name = map.get-empty (slice_cmp nat_cmp) name

pub differ : (x y : Text) → not (bytes_eq x y) ≡ true → x ≡ y → ⊥
differ x y h e = go (bytes_eq x y) ((bytes_eq-Decides x y).1 e) h
  where
    go : (b : Bool) → b ≡ true → not b ≡ true → ⊥
    go true is h = true≢false (sym h)
    go false is h = true≢false (sym is)

-- the files of a request that the outside shows
pub record IsShown (o : Outside) (v : CheckValues) (layout cert out : Option (List ℕ)) : Type 0 where
  pub input : file_of o v.input ≡ layout
  pub certificate : file_of o v.certificate ≡ cert
  pub output : file_of o v.output ≡ out

some_outside : (v : CheckValues) (layout cert out : Option (List ℕ)) → IsApart (AsksCheck v) → (o : Outside) × IsShown o v layout cert out
some_outside v layout cert out apart =
    let names = (both _ _ apart).1 in
    let io = differ v.input v.output (both _ _ names).0 in
    let rest = (both _ _ names).1 in
    let ic = differ v.input v.certificate (both _ _ rest).0 in
    let oc = differ v.output v.certificate (both _ _ rest).1 in
    let one = with_if v.input layout nothing in
    let two = with_if v.certificate cert one in
    let three = with_if v.output out two in (
      three,
      record {
        input = if_other v.output out two v.input io ∙ if_other v.certificate cert one v.input ic ∙ if_put v.input layout nothing (none v.input);
        certificate = if_other v.output out two v.certificate (λ e. oc (sym e)) ∙ if_put v.certificate cert one
            (if_other v.input layout nothing v.certificate (λ e. ic (sym e)) ∙ none v.certificate);
        output = if_put v.output out two (if_other v.certificate cert one v.output oc ∙ if_other v.input layout nothing v.output (λ e. io (sym e)) ∙ none v.output);
      },
    )

-- what was made of the files
pub record IsMadeOfFiles (told : Option Outside) (v : CheckValues) (x : Outcome) : Type 0 where
  pub layout : Option (List ℕ)
  pub cert : Option (List ℕ)
  pub out : Option (List ℕ)
  pub input_told : IsTold told v.input layout
  pub cert_told : IsTold told v.certificate cert
  pub out_told : IsTold told v.output out
  pub is : IsCheck v layout cert out x
  pub answered : is_answered x.status ≡ true

planned : (v : CheckValues) (o : Outside) (layout cert out : Option (List ℕ)) (x : Outcome) → IsShown o v layout cert out → IsCheck v layout cert out x
    → IsCheck v (map.get o.files v.input) (map.get o.files v.certificate) (map.get o.files v.output) x
planned v o layout cert out x s h =
    subst (λ (f : Option (List ℕ)). IsCheck v f (map.get o.files v.certificate) (map.get o.files v.output) x) (sym s.input)
    (subst (λ (f : Option (List ℕ)). IsCheck v layout f (map.get o.files v.output) x) (sym s.certificate)
    (subst (λ (f : Option (List ℕ)). IsCheck v layout cert f x) (sym s.output) h))

pub check_made : (told : Option Outside) (v : CheckValues) (x : Outcome) → IsApart (AsksCheck v) → IsMadeOfFiles told v x → IsMade (Some (AsksCheck v)) told x
check_made None v x apart m =
    let s = some_outside v m.layout m.cert m.out apart in
    (s.0, tt, planned v s.0 m.layout m.cert m.out x s.1 m.is, m.answered)
check_made (Some o) v x apart m =
    (o, refl, planned v o m.layout m.cert m.out x (record { input = m.input_told; certificate = m.cert_told; output = m.out_told }) m.is, m.answered)

-- ---- files that were read, and files that weren't

pub some_file : (told : Option Outside) (name : Text) → (file : Option (List ℕ)) × IsTold told name file
some_file None name = (None, tt)
some_file (Some o) name = (file_of o name, refl)

pub large_file : (told : Option Outside) (name : Text) → IsSeen told name None → (file : List ℕ) × IsTold told name (Some file) × (limit < length file)
large_file None name h = (zeros 268435457, tt, omega (arith, length-zeros 268435457))
large_file (Some o) name h = h

pub refusal_answered : (file : List ℕ) (name : Name) (at : ℕ) (x : Outcome) → x ≡ refusal_of file name at → is_answered x.status ≡ true
refusal_answered file name at x is = ap (λ (y : Outcome). is_answered y.status) is

verdict_answered : (w : Verdict) → is_answered (verdict_status w) ≡ true
verdict_answered Valid = refl
verdict_answered (Rules r m c) = refl
verdict_answered (WasFault name at) = refl
verdict_answered (Counts f p z) = refl
verdict_answered (Cover at) = refl
verdict_answered (Overlap at) = refl
verdict_answered (SpacingA p q) = refl
verdict_answered (SpacingB p q) = refl
verdict_answered (Marked at) = refl
verdict_answered (Stitch k) = refl
verdict_answered (Piece k) = refl
verdict_answered (Gain k) = refl
verdict_answered (Cycle k) = refl

judged_answered : (cert : Cert) (w : Verdict) (x : Outcome) → x ≡ verdict_outcome cert w → is_answered x.status ≡ true
judged_answered cert w x is = ap (λ (y : Outcome). is_answered y.status) is ∙ verdict_answered w

-- ---- the layout

pub layout_large : (told : Option Outside) (v : CheckValues) (x : Outcome) → IsSeen told v.input None → x ≡ refusal_of (codes "in") TooLarge limit → IsMadeOfFiles told v x
layout_large told v x seen is =
    let file = large_file told v.input seen in
    let cert = some_file told v.certificate in
    let out = some_file told v.output in
    record {
      layout = Some file.0;
      cert = cert.0;
      out = out.0;
      input_told = file.1;
      cert_told = cert.1;
      out_told = out.1;
      is = (FaultyMarked TooLarge limit, inl (file.2, refl), is);
      answered = refusal_answered (codes "in") TooLarge limit x is;
    }

pub layout_faulty : (told : Option Outside) (v : CheckValues) (bytes : List ℕ) (name : Name) (at : ℕ) (x : Outcome)
    → IsSeen told v.input (Some bytes) → IsMarkedLayout (check_marked v) bytes (FaultyMarked name at) → x ≡ refusal_of (codes "in") name at
    → IsMadeOfFiles told v x
layout_faulty told v bytes name at x seen read is =
    let cert = some_file told v.certificate in
    let out = some_file told v.output in
    record {
      layout = Some bytes;
      cert = cert.0;
      out = out.0;
      input_told = seen.0;
      cert_told = cert.1;
      out_told = out.1;
      is = (FaultyMarked name at, inr (seen.1, read), is);
      answered = refusal_answered (codes "in") name at x is;
    }

pub layout_read : (told : Option Outside) (v : CheckValues) (bytes copied : List ℕ) (layer a b : List Rect) (x : Outcome)
    → IsSeen told v.input (Some bytes) → IsMarkedLayout (check_marked v) bytes (MarkedLayer copied layer a b) → IsMadeOfLayer told v (marks_for (check_marked v) a b) layer x
    → IsMadeOfFiles told v x
layout_read told v bytes copied layer a b x seen read (cert, out, cert_told, out_told, is, answered) =
    record {
      layout = Some bytes;
      cert = cert;
      out = out;
      input_told = seen.0;
      cert_told = cert_told;
      out_told = out_told;
      is = (MarkedLayer copied layer a b, inr (seen.1, read), is);
      answered = answered;
    }

-- ---- the certificate

pub cert_large : (told : Option Outside) (v : CheckValues) (marks : Option Marks) (layer : List Rect) (x : Outcome) → IsSeen told v.certificate None
    → x ≡ refusal_of (codes "cert") TooLarge limit → IsMadeOfLayer told v marks layer x
cert_large told v marks layer x seen is =
    let file = large_file told v.certificate seen in
    let out = some_file told v.output in
    (Some file.0, out.0, file.1, out.1, inl (file.2, is), refusal_answered (codes "cert") TooLarge limit x is)

pub cert_bad : (told : Option Outside) (v : CheckValues) (marks : Option Marks) (layer : List Rect) (text : List ℕ) (n : ℕ) (x : Outcome)
    → IsSeen told v.certificate (Some text) → IsBadLine text n → x ≡ says Refused (bad_line_line (codes "cert") n) → IsMadeOfLayer told v marks layer x
cert_bad told v marks layer text n x seen bad is =
    let out = some_file told v.output in
    (Some text, out.0, seen.0, out.1, inr (seen.1, inr (n, bad, is)), ap (λ (y : Outcome). is_answered y.status) is)

pub cert_read : (told : Option Outside) (v : CheckValues) (marks : Option Marks) (layer : List Rect) (text : List ℕ) (cert : Cert) (x : Outcome)
    → IsSeen told v.certificate (Some text) → IsText cert text → IsMadeOfCert told v marks layer cert x → IsMadeOfLayer told v marks layer x
cert_read told v marks layer text cert x seen read (out, out_told, is, answered) = (Some text, out, seen.0, out_told, inr (seen.1, inl (cert, read, is)), answered)

-- what is judged without OUT
pub cycle_checked : (v : CheckValues) (marks : Option Marks) (layer : List Rect) (out : Option (List ℕ)) (cert : Cert) (w : Verdict) (x : Outcome)
    → IsOfConflict cert → IsVerdictOfConflict marks (check_spacing v) v.overlap layer cert w → x ≡ verdict_outcome cert w
    → IsCheckOfCert v marks layer out cert x
cycle_checked v marks layer out (Masks h ps ss gs) w x of said is = absurd of
cycle_checked v marks layer out (Conflict h cs ns) w x of said is = (w, said, is)
cycle_checked v marks layer out (Fault name at) w x of said is = absurd of

pub fault_checked : (v : CheckValues) (marks : Option Marks) (layer : List Rect) (out : Option (List ℕ)) (cert : Cert) (name : Name) (at : ℕ) (x : Outcome)
    → cert ≡ Fault name at → x ≡ verdict_outcome cert (WasFault name at) → IsCheckOfCert v marks layer out cert x
fault_checked v marks layer out cert name at x named is =
    let here : x ≡ verdict_outcome (Fault name at) (WasFault name at) = is ∙ ap (λ (c : Cert). verdict_outcome c (WasFault name at)) named in
    subst (λ (c : Cert). IsCheckOfCert v marks layer out c x) (sym named) here

pub alone_made : (told : Option Outside) (v : CheckValues) (marks : Option Marks) (layer : List Rect) (cert : Cert) (x : Outcome) → (IsOfMasks cert → ⊥)
    → ((out : Option (List ℕ)) → IsCheckOfCert v marks layer out cert x) → IsMadeOfCert told v marks layer cert x
alone_made told v marks layer (Masks h ps ss gs) x other checked = absurd (other tt)
alone_made told v marks layer (Conflict h cs ns) x other checked =
    let out = some_file told v.output in
    let (w, said, is) = checked out.0 in
    (out.0, out.1, (w, said, is), judged_answered (Conflict h cs ns) w x is)
alone_made told v marks layer (Fault name at) x other checked =
    let out = some_file told v.output in
    (out.0, out.1, checked out.0, judged_answered (Fault name at) (WasFault name at) x (checked out.0))

-- ---- the masks

pub out_large : (told : Option Outside) (v : CheckValues) (marks : Option Marks) (layer : List Rect) (cert : Cert) (x : Outcome) → IsOfMasks cert
    → IsSeen told v.output None → x ≡ refusal_of (codes "out") TooLarge limit → IsMadeOfCert told v marks layer cert x
out_large told v marks layer (Masks h ps ss gs) x of seen is =
    let file = large_file told v.output seen in
    (Some file.0, file.1, (Faulty TooLarge limit, inl (file.2, refl), is), refusal_answered (codes "out") TooLarge limit x is)
out_large told v marks layer (Conflict h cs ns) x of seen is = absurd of
out_large told v marks layer (Fault name at) x of seen is = absurd of

masks_answered : (v : CheckValues) (marks : Option Marks) (layer : List Rect) (cert : Cert) (bytes : List ℕ) (x : Outcome) → IsCheckOfMasks v marks layer cert bytes x → is_answered x.status ≡ true
masks_answered v marks layer cert bytes x (Faulty name at, read, is) = refusal_answered (codes "out") name at x is
masks_answered v marks layer cert bytes x (Layer copied a, read, (Faulty name at, other, is)) = refusal_answered (codes "out") name at x is
masks_answered v marks layer cert bytes x (Layer copied a, read, (Layer back b, other, (w, said, is))) = judged_answered cert w x is

pub out_read : (told : Option Outside) (v : CheckValues) (marks : Option Marks) (layer : List Rect) (cert : Cert) (bytes : List ℕ) (x : Outcome) → IsOfMasks cert
    → IsSeen told v.output (Some bytes) → IsCheckOfMasks v marks layer cert bytes x → IsMadeOfCert told v marks layer cert x
out_read told v marks layer (Masks h ps ss gs) bytes x of seen is = (Some bytes, seen.0, is, masks_answered v marks layer (Masks h ps ss gs) bytes x is)
out_read told v marks layer (Conflict h cs ns) bytes x of seen is = absurd of
out_read told v marks layer (Fault name at) bytes x of seen is = absurd of

pub first_faulty : (v : CheckValues) (marks : Option Marks) (layer : List Rect) (cert : Cert) (bytes : List ℕ) (name : Name) (at : ℕ) (x : Outcome)
    → length bytes ≤ limit → IsLayout (mask_choice v.a) bytes (Faulty name at) → x ≡ refusal_of (codes "out") name at
    → IsCheckOfMasks v marks layer cert bytes x
first_faulty v marks layer cert bytes name at x small read is = (Faulty name at, inr (small, read), is)

pub second_faulty : (v : CheckValues) (marks : Option Marks) (layer : List Rect) (cert : Cert) (bytes copied : List ℕ) (a : List Rect) (name : Name) (at : ℕ)
    (x : Outcome) → length bytes ≤ limit → IsLayout (mask_choice v.a) bytes (Layer copied a)
    → IsLayout (mask_choice v.b) bytes (Faulty name at) → x ≡ refusal_of (codes "out") name at → IsCheckOfMasks v marks layer cert bytes x
second_faulty v marks layer cert bytes copied a name at x small read other is = (Layer copied a, inr (small, read), (Faulty name at, inr (small, other), is))

pub masks_judged : (v : CheckValues) (marks : Option Marks) (layer : List Rect) (cert : Cert) (bytes copied back : List ℕ) (a b : List Rect) (w : Verdict)
    (x : Outcome) → length bytes ≤ limit → IsLayout (mask_choice v.a) bytes (Layer copied a)
    → IsLayout (mask_choice v.b) bytes (Layer back b) → IsVerdictOfMasks marks (check_spacing v) v.overlap layer a b cert w → x ≡ verdict_outcome cert w → IsCheckOfMasks v marks layer cert bytes x
masks_judged v marks layer cert bytes copied back a b w x small read other said is = (Layer copied a, inr (small, read), (Layer back b, inr (small, other), (w, said, is)))
