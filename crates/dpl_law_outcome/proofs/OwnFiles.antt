-- `check` finds nothing broken in what `split` has written.
use Rattle.std.proofs.Common.{◌⊎◌, ◌≡◌, ◌≢◌, ℕ, ◌≤◌, inl, inr, true, true≢false, eqb, not, List, length, Option, Some, None, refl, sym, ap, ◌∙◌, subst, arith}
use Rattle.std.specs.List.{Contains}
use Rattle.std.specs.Option.{option_map}
use Rattle.std.proofs.lemmas.Bool.{eq-eqb}
use Rattle.std.proofs.lemmas.Option.{slice_get_cases}
use Rattle.clap.proofs.WalkLemmas.{both}
use Rattle.dpl_host.specs.Outside.{Outside, file_of, with_file}
use Rattle.dpl_host.proofs.Files.{file_put}
use Rattle.dpl_spec_split.specs.declared.Rect.{Rect}
use Rattle.dpl_spec_split.specs.Squares.{Covers}
use Rattle.dpl_spec_split.specs.Loops.{AreRectsWithin, farthest}
use Rattle.dpl_spec_split.specs.Decomposition.{Cut, IsCut}
use Rattle.dpl_spec_format.specs.Tree.{Library, Structure, frame_of}
use Rattle.dpl_spec_format.specs.Layout.{Holds}
use Rattle.dpl_cert.specs.declared.cert.Cert.TheVariants.{Masks, Conflict}
use Rattle.dpl_cert.specs.Grammar.{IsCert}
use Rattle.dpl_spec_verdict.specs.declared.Verdict.TheVariants.{Valid}
use Rattle.dpl_masks.specs.Bytes.{file_bytes}
use Rattle.dpl_law_verdict.proofs.Ranges.{layer-within}
use Rattle.dpl_law_verdict.proofs.Written.{masks-cert, masks-within}
use Rattle.dpl_law_split.proofs.Lettering.{lettered}
use Rattle.dpl_law_outcome.specs.ReadBack.{IsMask, IsReadAs}
use Rattle.dpl_law_outcome.proofs.Taken.{masks-read}
use Rattle.dpl_words.specs.Meaning.{AsksCheck, AsksSplit, SplitValues}
use Rattle.dpl_words.specs.Ranges.{AreInRangeForCheck, IsApart}
use Rattle.dpl_run.specs.declared.status.Status.{Status}
use Rattle.dpl_run.specs.declared.status.Status.TheVariants.{Done, Conflict as InConflict, ReadFault, Refused}
use Rattle.dpl_run.specs.Check.{IsCheck}
use Rattle.dpl_answer.specs.Flat.{Clash, Clashes, Flat, Painted, Paints, IsClashOfCut, IsFlatCut, IsPaintedCut}
use Rattle.dpl_run.specs.Outcome.{Outcome, Shows, carried_out, says, silent}
use Rattle.dpl_run.specs.Program.{IsPlan}
use Rattle.dpl_layer.specs.Reading.{IsLayerIn, Layer, chosen, frame_bytes, copied_of, limit}
use Rattle.dpl_decide.specs.Deciding.{Decides, Decision, IsDecision, Refuses, marks_for}
use Rattle.dpl_run.specs.Split.{IsSplitOf, certified, plan_of, refusal, split_choice, split_marked, split_spacing}
use Rattle.dpl_texts.specs.Texts.{valid_line}
use Rattle.dpl_layer.specs.Marked.{IsMarkedReading, MarkedLayer}
use Rattle.dpl_spec_split.specs.Marks.{Marks}
use Rattle.dpl_run.proofs.Checking.{differ, put_other}
use Rattle.dpl_law_outcome.specs.OwnFiles.{AreSmall, CanBeRead, IsDecided, OwnFilesAreValid, OwnRunsAreValid, cert_of, checking, SplitsAreDecided}
use Rattle.dpl_law_outcome.proofs.Asked.{asked-split}
use Rattle.dpl_law_outcome.proofs.Outcomes.{outcome-same}
use Rattle.dpl_law_outcome.proofs.Own.{clash-cert, clash-valid, painted-valid}

-- ---- names

-- each file has a name of its own, and each mask a layer
record AreOwn (v : SplitValues) : Type 0 where
  layers : v.a ≢ v.b
  out : v.input ≢ v.output
  cert : v.input ≢ v.certificate
  both_out : v.output ≢ v.certificate

unequal : (a b : ℕ) → not (eqb a b) ≡ true → a ≢ b
unequal a b h e = (let same : eqb a b ≡ true = eq-eqb a b e in true≢false (sym h ∙ ap not same))

own-names : (v : SplitValues) → IsApart (AsksSplit v) → AreOwn v
own-names v apart =
    let (layers, names) = both _ _ apart in
    let (first, rest) = both _ _ names in
    let (second, third) = both _ _ rest in
    record { layers = unequal v.a v.b layers; out = differ v.input v.output first; cert = differ v.input v.certificate second; both_out = differ v.output v.certificate third }

-- ---- the front of a file

-- the records before the elements are those of a structure of the library
fronted : (lib : Library) (top : ℕ) (front : List ℕ) → copied_of lib top ≡ Some front → (s : Structure) × Contains lib.structures s × (front ≡ frame_bytes (frame_of lib s))
fronted lib top front is = elim (slice_get_cases lib.structures top).1 [
  | inl there ↦ (let (s, top_in, found, at) = there in
      let some : Some (frame_bytes (frame_of lib s)) ≡ Some front = sym
      (ap (λ (o : Option Structure). option_map (λ (t : Structure). frame_bytes (frame_of lib t)) o) found) ∙ is in
      let same : front ≡ frame_bytes (frame_of lib s) = cc in
      (s, (top, top_in, at), same))
  | inr past ↦ (let none : None ≡ Some front = sym (ap (λ (o : Option Structure). option_map (λ (t : Structure). frame_bytes (frame_of lib t)) o) past.1) ∙ is in absurd (cc))
]

-- ---- masks

module _ (v : SplitValues) (o : Outside) (bytes front : List ℕ) (layer : List Rect) (in_range : AreInRangeForCheck (checking v))
    (apart : IsApart (AsksSplit v)) (read : file_of o v.input ≡ Some bytes)
    (on_a on_b : List Rect)
    (reading : IsMarkedReading (split_marked v) bytes (MarkedLayer front layer on_a on_b)) (lib : Library) (holds : Holds bytes lib)
    (l : IsLayerIn (split_choice v) lib front layer) (cut : Cut) (is_cut : IsCut (marks_for (split_marked v) on_a on_b) (split_spacing v) v.overlap (Covers layer) cut) where
  abbrev marks : Option Marks
  marks = marks_for (split_marked v) on_a on_b

  within : AreRectsWithin farthest layer
  within = layer-within lib l.top (chosen (split_choice v)) layer l.faultless l.squares

  abbrev IsFine : Painted → Type 0
  IsFine p = IsMask p.a × IsMask p.b × IsCert (Masks p.head p.pieces p.stitches p.gains)

  painted-fine : (p : Painted) → IsPaintedCut v.fewer marks (split_spacing v) v.overlap cut p → IsFine p
  painted-fine p painted =
      let m = painted.masks in
      let masks = lettered v.fewer marks (split_spacing v) cut m painted.are_masks in
      let near = masks-within marks (split_spacing v) v.overlap layer cut in_range.rule in_range.corner in_range.overlap within is_cut m masks in
      subst (λ (q : Painted). IsFine q) (sym painted.is) (
        record { canonical = painted.are_masks.a.canonical; within = near.0 },
        record { canonical = painted.are_masks.b.canonical; within = near.1 },
        masks-cert marks (split_spacing v) v.overlap layer cut in_range.rule in_range.corner in_range.overlap within is_cut m masks v.fewer painted.gains painted.are_gains,
      )

  abbrev OutIsRead : List ℕ → Painted → Type 0
  OutIsRead before p = IsReadAs (file_bytes before v.a v.b p.a p.b) v.a p.a × IsReadAs (file_bytes before v.a v.b p.a p.b) v.b p.b

  out-read : (p : Painted) → IsPaintedCut v.fewer marks (split_spacing v) v.overlap cut p → AreSmall v front p → OutIsRead front p
  out-read p painted small =
      let own = own-names v apart in
      let (first, second, cert) = painted-fine p painted in
      let a_fits = in_range.a in
      let b_fits = in_range.b in
      let (s, s_in, same) = fronted lib l.top front l.before in
      let fits : length (file_bytes (frame_bytes (frame_of lib s)) v.a v.b p.a p.b) ≤ limit = subst
      (λ (f : List ℕ). length (file_bytes f v.a v.b p.a p.b) ≤ limit) same small.out in
      subst (λ (f : List ℕ). OutIsRead f p) (sym same)
      (masks-read bytes lib s v.a v.b p.a p.b holds s_in own.layers (omega (arith, a_fits)) (omega (arith, b_fits)) first second fits small.first small.second)

  -- with the files that are there
  masks-checked : (p : Painted) → IsPaintedCut v.fewer marks (split_spacing v) v.overlap cut p → AreSmall v front p
      → IsCheck (checking v) (Some bytes) (Some (certified (Masks p.head p.pieces p.stitches p.gains))) (Some (file_bytes front v.a v.b p.a p.b))
      (says Done (valid_line (Masks p.head p.pieces p.stitches p.gains)))
  masks-checked p painted small =
      let (first, second, cert) = painted-fine p painted in
      let ((fa, ra), (fb, rb)) = out-read p painted small in (
        MarkedLayer front layer on_a on_b,
        reading,
        inr (
          small.cert,
          inl (
            Masks p.head p.pieces p.stitches p.gains,
            (cert, refl),
            (Layer fa p.a, ra, (Layer fb p.b, rb, (Valid, painted-valid v.fewer marks (split_spacing v) v.overlap layer cut p is_cut painted, refl))),
          ),
        ),
      )

  -- the files that are there
  masks-kept : (p : Painted) → IsPaintedCut v.fewer marks (split_spacing v) v.overlap cut p → AreSmall v front p
      → IsPlan (Some (AsksCheck (checking v))) (carried_out (plan_of v (Decides front (Paints p))) o).files (says Done (valid_line (Masks p.head p.pieces p.stitches p.gains)))
  masks-kept p painted small =
      let own = own-names v apart in
      let file = file_bytes front v.a v.b p.a p.b in
      let text = certified (Masks p.head p.pieces p.stitches p.gains) in
      let x = says Done (valid_line (Masks p.head p.pieces p.stitches p.gains)) in
      let one : Outside = with_file v.output file o in
      let two : Outside = with_file v.certificate text one in
      let input_is : file_of two v.input ≡ Some bytes = put_other one v.certificate text v.input own.cert ∙ (put_other o v.output file v.input own.out ∙ read) in
      let out_is : file_of two v.output ≡ Some file = put_other one v.certificate text v.output own.both_out ∙ file_put o v.output file in
      let cert_is : file_of two v.certificate ≡ Some text = file_put one v.certificate text in
      subst (λ (i : Option (List ℕ)). IsCheck (checking v) i (file_of two v.certificate) (file_of two v.output) x) (sym input_is)
      (subst (λ (c : Option (List ℕ)). IsCheck (checking v) (Some bytes) c (file_of two v.output) x) (sym cert_is)
      (subst (λ (f : Option (List ℕ)). IsCheck (checking v) (Some bytes) (Some text) f x) (sym out_is) (masks-checked p painted small)))

  -- ---- conflicts

  clash-fine : (x : Clash) → IsClashOfCut marks (split_spacing v) v.overlap cut x → IsCert (Conflict x.head x.cycle x.near)
  clash-fine x clash = clash-cert marks (split_spacing v) v.overlap layer cut x in_range.rule in_range.corner in_range.overlap within is_cut clash

  clash-checked : (x : Clash) (out : Option (List ℕ)) → IsClashOfCut marks (split_spacing v) v.overlap cut x → length (certified (Conflict x.head x.cycle x.near)) ≤ limit
      → IsCheck (checking v) (Some bytes) (Some (certified (Conflict x.head x.cycle x.near))) out (says Done (valid_line (Conflict x.head x.cycle x.near)))
  clash-checked x out clash small = (
    MarkedLayer front layer on_a on_b,
    reading,
    inr (
      small,
      inl (
        Conflict x.head x.cycle x.near,
        (clash-fine x clash, refl),
        (Valid, clash-valid marks (split_spacing v) v.overlap layer cut x is_cut clash, refl),
      ),
    ),
  )

  clash-kept : (x : Clash) → IsClashOfCut marks (split_spacing v) v.overlap cut x → length (certified (Conflict x.head x.cycle x.near)) ≤ limit
      → IsPlan (Some (AsksCheck (checking v))) (carried_out (plan_of v (Decides front (Clashes x))) o).files (says Done (valid_line (Conflict x.head x.cycle x.near)))
  clash-kept x clash small =
      let own = own-names v apart in
      let text = certified (Conflict x.head x.cycle x.near) in
      let y = says Done (valid_line (Conflict x.head x.cycle x.near)) in
      let one : Outside = with_file v.certificate text o in
      let input_is : file_of one v.input ≡ Some bytes = put_other o v.certificate text v.input own.cert ∙ read in
      let cert_is : file_of one v.certificate ≡ Some text = file_put o v.certificate text in
      subst (λ (i : Option (List ℕ)). IsCheck (checking v) i (file_of one v.certificate) (file_of one v.output) y) (sym input_is)
      (subst (λ (c : Option (List ℕ)). IsCheck (checking v) (Some bytes) c (file_of one v.output) y) (sym cert_is) (clash-checked x (file_of one v.output) clash small))

  cut-kept : (flat : Flat) → IsFlatCut v.fewer marks (split_spacing v) v.overlap cut flat → CanBeRead v front flat
      → IsPlan (Some (AsksCheck (checking v))) (carried_out (plan_of v (Decides front flat)) o).files (says Done (valid_line (cert_of flat)))
  cut-kept (Paints p) is small = masks-kept p is small
  cut-kept (Clashes x) is small = clash-kept x is small

-- ---- both

pub own-files : OwnFilesAreValid
own-files v o front flat in_range apart (bytes, found, (layer, on_a, on_b, reading, (cut, is_cut, flat_is))) small =
    elim reading [
      | inl large ↦ cc
      | inr read ↦ (let (lib, holds, l) = read.1 in
          cut-kept v o bytes front layer in_range apart found on_a on_b (inr read) lib holds l.layer cut is_cut flat flat_is small)
    ]

-- ---- what is decided

abbrev IsAnswer : Status → Type 0
IsAnswer s = (s ≡ Done) ⊎ (s ≡ InConflict)

unread : IsAnswer ReadFault → ⊥
unread (inl e) = cc
unread (inr e) = cc

refused : IsAnswer Refused → ⊥
refused (inl e) = cc
refused (inr e) = cc

status-of : (x y : Outcome) → x ≡ y → IsAnswer x.status → IsAnswer y.status
status-of x y is answer = subst (λ (z : Outcome). IsAnswer z.status) is answer

by-decision : (v : SplitValues) (o : Outside) (bytes : List ℕ) (x : Outcome) (d : Decision) → file_of o v.input ≡ Some bytes
    → IsDecision v.fewer (split_marked v) (split_spacing v) v.overlap bytes d → x ≡ plan_of v d → IsAnswer x.status
    → (front : List ℕ) × (flat : Flat) × IsDecided v o front flat × (x ≡ plan_of v (Decides front flat))
by-decision v o bytes x (Refuses name at) found decided is answer = absurd (refused (status-of x (refusal v name at) is answer))
by-decision v o bytes x (Decides front flat) found decided is answer = (front, flat, (bytes, found, decided), is)

by-file : (v : SplitValues) (o : Outside) (x : Outcome) (file : Option (List ℕ)) → file_of o v.input ≡ file → IsSplitOf v file x → IsAnswer x.status
    → (front : List ℕ) × (flat : Flat) × IsDecided v o front flat × (x ≡ plan_of v (Decides front flat))
by-file v o x None found is answer = absurd (unread (status-of x (silent ReadFault) is answer))
by-file v o x (Some bytes) found (d, decided, is) answer = by-decision v o bytes x d found decided is answer

pub split-decided : SplitsAreDecided
split-decided v o x plan answer = by-file v o x (file_of o v.input) refl plan answer

-- ---- runs

split-plan : (v : SplitValues) (o : Outside) (front : List ℕ) (flat : Flat) → IsDecided v o front flat → IsPlan (Some (AsksSplit v)) o.files (plan_of v (Decides front flat))
split-plan v o front flat (bytes, read, decided) = subst (λ (file : Option (List ℕ)). IsSplitOf v file (plan_of v (Decides front flat)))
    (sym read) (Decides front flat, decided, refl)

pub own-runs : OwnRunsAreValid
own-runs v words others o front flat s t new last asks asks_check decided small (p, p_is, (x, x_plan, s_is, new_is)) (q, q_is, (z, z_plan, t_is, last_is)) =
    let (ranges, apart) = asked-split words v asks in
    let in_range : AreInRangeForCheck
    (checking v) = record {
      layer = ranges.layer;
      datatype = ranges.datatype;
      rule = ranges.rule;
      overlap = ranges.overlap;
      corner = ranges.corner;
      a = ranges.a;
      b = ranges.b;
      mark_a = ranges.mark_a;
      mark_b = ranges.mark_b;
    } in
    let y : Outcome = plan_of v (Decides front flat) in
    let done : Outcome = says Done (valid_line (cert_of flat)) in
    let mine : IsPlan (Some (AsksSplit v)) o.files x = subst (λ (out : Outside). IsPlan (Some (AsksSplit v)) out.files x) (sym p_is)
    (subst (λ r. IsPlan r p.files x) asks x_plan) in
    let same : x ≡ y = outcome-same (AsksSplit v) v.tile v.workers o.files x y mine (split-plan v o front flat decided) in
    let after : new ≡ Some (carried_out y o) = new_is ∙ ap (λ (u : Outcome). Some (carried_out u o)) same in
    let shown : carried_out y o ≡ q = seen after q_is in
    let theirs : IsPlan (Some (AsksCheck (checking v))) (carried_out y o).files z = subst
    (λ (out : Outside). IsPlan (Some (AsksCheck (checking v))) out.files z) (sym shown)
    (subst (λ r. IsPlan r q.files z) asks_check z_plan) in
    let kept : IsPlan (Some (AsksCheck (checking v))) (carried_out y o).files done = own-files v o front flat in_range apart decided small in
    let one : z ≡ done = outcome-same (AsksCheck (checking v)) v.tile v.workers (carried_out y o).files z done theirs kept in (
      t_is ∙ ap (λ (u : Outcome). u.status) one,
      last_is ∙ ap (λ (u : Outcome). option_map (carried_out u) new) one,
    )
  where
    seen : {told : Option Outside} {a b : Outside} → told ≡ Some a → Shows told b → a ≡ b
    seen {told} {a} {b} is shows = subst (λ (w : Option Outside). Shows w b) is shows
