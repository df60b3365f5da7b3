-- What is made of the files of `edit`, and the reads that it makes.
use Rattle.std.proofs.Common.{◌≡◌, ◌∙◌, ap, sym, refl, subst, inl, inr, true, List, [], ℕ, Option, Some, None, codes}
use Rattle.std.specs.Prelude.{IfSome}
use Rattle.std.specs.FinMap as map
use Rattle.std.proofs.lemmas.List.{append-nil}
use Rattle.clap.proofs.WalkLemmas.{both}
use Rattle.dpl_host.specs.Calls.{AreReadsOf, Call, Logged}
use Rattle.dpl_host.specs.Outside.{Outside, file_of}
use Rattle.dpl_host.proofs.Logs.{logged_both, logged_weaker}
use Rattle.dpl_spec_split.specs.declared.Rect.{Rect}
use Rattle.dpl_cert.specs.declared.name.Name.{Name}
use Rattle.dpl_cert.specs.declared.name.Name.TheVariants.{TooLarge}
use Rattle.dpl_spec_edits.specs.declared.Edit.{Edit}
use Rattle.dpl_spec_edits.specs.Text.{IsFirstBad, IsListed}
use Rattle.dpl_words.specs.Meaning.{AsksEdit, EditValues}
use Rattle.dpl_words.specs.Ranges.{IsApart}
use Rattle.dpl_layer.specs.Reading.{Faulty, IsLayout, Layer, limit}
use Rattle.dpl_decide.specs.Deciding.{Decides}
use Rattle.dpl_texts.specs.Texts.{bad_line_line}
use Rattle.dpl_run.specs.Calls.{AreReadsOfEdit, HasLayerToEdit}
use Rattle.dpl_run.specs.Check.{refusal_of}
use Rattle.dpl_run.specs.Edit.{IsEditOf, IsEditedBy, edit_choice, split_by}
use Rattle.dpl_run.specs.Outcome.{Outcome, is_answered, says}
use Rattle.dpl_run.specs.Program.{IsMade, IsMadeOfEdits, IsSeen, IsTold}
use Rattle.dpl_run.specs.Split.{refusal}
use Rattle.dpl_run.specs.declared.status.Status.TheVariants.{Refused}
use Rattle.dpl_run.proofs.Checking.{differ, if_other, if_put, large_file, none, refusal_answered, some_file, with_if}
use Rattle.dpl_run.proofs.Inputs.{nothing, plan_answered}

abbrev Log : Type 0
Log = Option (List Call)

-- ---- reads

pub layout_only : {told : Option Outside} {before now : Log} {v : EditValues} → Logged before now (AreReadsOf v.input) → Logged before now (AreReadsOfEdit v told)
layout_only {told} {before} {now} {v} h = logged_weaker before now (AreReadsOf v.input) (AreReadsOfEdit v told)
    (λ calls reads. record { layout = calls; edits = []; are = sym (append-nil calls); of_layout = reads; of_edits = inl refl }) h

has_layer : (told : Option Outside) (v : EditValues) (bytes copied : List ℕ) (layer : List Rect) → IsSeen told v.input (Some bytes)
    → IsLayout (edit_choice v) bytes (Layer copied layer) → IfSome told (HasLayerToEdit v)
has_layer None v bytes copied layer seen read = tt
has_layer (Some o) v bytes copied layer seen read = (bytes, copied, layer, seen.0, inr (seen.1, read))

pub layout_and_edits : {told : Option Outside} {before mid now : Log} (v : EditValues) (bytes copied : List ℕ) (layer : List Rect)
    → IsSeen told v.input (Some bytes) → IsLayout (edit_choice v) bytes (Layer copied layer)
    → Logged before mid (AreReadsOf v.input) → Logged mid now (AreReadsOf v.edits) → Logged before now (AreReadsOfEdit v told)
layout_and_edits {told} {before} {mid} {now} v bytes copied layer seen read first second = logged_both before mid now (AreReadsOf v.input) (AreReadsOf v.edits)
    (AreReadsOfEdit v told) (λ xs ys reads more. record {
      layout = xs;
      edits = ys;
      are = refl;
      of_layout = reads;
      of_edits = inr (more, has_layer told v bytes copied layer seen read);
    }) first second

-- ---- an outside with two files

-- the files of a request that the outside shows
record IsShown (o : Outside) (v : EditValues) (layout text : Option (List ℕ)) : Type 0 where
  input : file_of o v.input ≡ layout
  edits : file_of o v.edits ≡ text

some_outside : (v : EditValues) (layout text : Option (List ℕ)) → IsApart (AsksEdit v) → (o : Outside) × IsShown o v layout text
some_outside v layout text apart =
    let other = differ v.input v.edits (both _ _ (both _ _ apart).1).0 in
    let one = with_if v.input layout nothing in
    let two = with_if v.edits text one in (
      two,
      record {
        input = if_other v.edits text one v.input other ∙ if_put v.input layout nothing (none v.input);
        edits = if_put v.edits text one (if_other v.input layout nothing v.edits (λ e. other (sym e)) ∙ none v.edits);
      },
    )

-- what was made of the files
pub record IsMadeOfBoth (told : Option Outside) (v : EditValues) (x : Outcome) : Type 0 where
  pub layout : Option (List ℕ)
  pub text : Option (List ℕ)
  pub input_told : IsTold told v.input layout
  pub edits_told : IsTold told v.edits text
  pub is : IsEditOf v layout text x
  pub answered : is_answered x.status ≡ true

planned : (v : EditValues) (o : Outside) (layout text : Option (List ℕ)) (x : Outcome) → IsShown o v layout text → IsEditOf v layout text x
    → IsEditOf v (map.get o.files v.input) (map.get o.files v.edits) x
planned v o layout text x s h =
    subst (λ (f : Option (List ℕ)). IsEditOf v f (map.get o.files v.edits) x) (sym s.input)
    (subst (λ (f : Option (List ℕ)). IsEditOf v layout f x) (sym s.edits) h)

pub edit_made : (told : Option Outside) (v : EditValues) (x : Outcome) → IsApart (AsksEdit v) → IsMadeOfBoth told v x → IsMade (Some (AsksEdit v)) told x
edit_made None v x apart m =
    let s = some_outside v m.layout m.text apart in
    (s.0, tt, planned v s.0 m.layout m.text x s.1 m.is, m.answered)
edit_made (Some o) v x apart m = (o, refl, planned v o m.layout m.text x (record { input = m.input_told; edits = m.edits_told }) m.is, m.answered)

-- ---- the layout

pub layout_large : (told : Option Outside) (v : EditValues) (x : Outcome) → IsSeen told v.input None → x ≡ refusal (split_by v) TooLarge limit → IsMadeOfBoth told v x
layout_large told v x seen is =
    let file = large_file told v.input seen in
    let text = some_file told v.edits in
    record {
      layout = Some file.0;
      text = text.0;
      input_told = file.1;
      edits_told = text.1;
      is = (Faulty TooLarge limit, inl (file.2, refl), is);
      answered = ap (λ (y : Outcome). is_answered y.status) is;
    }

pub layout_faulty : (told : Option Outside) (v : EditValues) (bytes : List ℕ) (name : Name) (at : ℕ) (x : Outcome)
    → IsSeen told v.input (Some bytes) → IsLayout (edit_choice v) bytes (Faulty name at) → x ≡ refusal (split_by v) name at → IsMadeOfBoth told v x
layout_faulty told v bytes name at x seen read is =
    let text = some_file told v.edits in
    record {
      layout = Some bytes;
      text = text.0;
      input_told = seen.0;
      edits_told = text.1;
      is = (Faulty name at, inr (seen.1, read), is);
      answered = ap (λ (y : Outcome). is_answered y.status) is;
    }

pub layout_read : (told : Option Outside) (v : EditValues) (bytes copied : List ℕ) (layer : List Rect) (x : Outcome)
    → IsSeen told v.input (Some bytes) → IsLayout (edit_choice v) bytes (Layer copied layer) → IsMadeOfEdits told v copied layer x → IsMadeOfBoth told v x
layout_read told v bytes copied layer x seen read (text, told_text, is, answered) =
    record {
      layout = Some bytes;
      text = text;
      input_told = seen.0;
      edits_told = told_text;
      is = (Layer copied layer, inr (seen.1, read), is);
      answered = answered;
    }

-- ---- the text of edits

pub edits_large : (told : Option Outside) (v : EditValues) (copied : List ℕ) (layer : List Rect) (x : Outcome) → IsSeen told v.edits None
    → x ≡ refusal_of (codes "edits") TooLarge limit → IsMadeOfEdits told v copied layer x
edits_large told v copied layer x seen is =
    let file = large_file told v.edits seen in
    (Some file.0, file.1, inl (file.2, is), refusal_answered (codes "edits") TooLarge limit x is)

pub edits_bad : (told : Option Outside) (v : EditValues) (copied : List ℕ) (layer : List Rect) (text : List ℕ) (n : ℕ) (x : Outcome)
    → IsSeen told v.edits (Some text) → IsFirstBad text n → x ≡ says Refused (bad_line_line (codes "edits") n) → IsMadeOfEdits told v copied layer x
edits_bad told v copied layer text n x seen bad is = (Some text, seen.0, inr (seen.1, inr (n, bad, is)), ap (λ (y : Outcome). is_answered y.status) is)

edited_answered : (v : EditValues) (copied : List ℕ) (layer : List Rect) (es : List Edit) (x : Outcome) → IsEditedBy v copied layer es x → is_answered x.status ≡ true
edited_answered v copied layer es x (after, squares, flat, decomposed, is) = ap (λ (y : Outcome). is_answered y.status) is ∙ plan_answered (split_by v) (Decides copied flat)

pub edits_read : (told : Option Outside) (v : EditValues) (copied : List ℕ) (layer : List Rect) (text : List ℕ) (es : List Edit) (x : Outcome)
    → IsSeen told v.edits (Some text) → IsListed es text → IsEditedBy v copied layer es x → IsMadeOfEdits told v copied layer x
edits_read told v copied layer text es x seen listed is = (Some text, seen.0, inr (seen.1, inl (es, listed, is)), edited_answered v copied layer es x is)
