-- Many layers of one file, each decided as if it were alone.
use Rattle.std.proofs.Common.{◌≡◌, ◌∙◌, ◌<◌, ◌∷◌, [], List, ℕ, Bool, Option, Some, None, ap, false, true, inl, length, map, refl, subst, sym}
use Rattle.std.specs.Prelude.{nat_lt, if◌then◌else◌}
use Rattle.std.specs.List.{AllZip, fold}
use Rattle.dpl_cert.specs.declared.name.Name.TheVariants.{TooLarge}
use Rattle.dpl_host.specs.Outside.{Outside}
use Rattle.clap.specs.Walk.{Text}
use Rattle.dpl_words.specs.Meaning.{AsksBatch, BatchValues, certificate_name, mask_name}
use Rattle.dpl_answer.specs.Flat.{Clashes, Paints}
use Rattle.dpl_run.specs.Batch.{IsBatch, IsBatchOf, greater, split_of}
use Rattle.dpl_decide.specs.Many.{layer_choice}
use Rattle.dpl_run.specs.BatchMade.{AreDecidedFor, decided_together, each_decided}
use Rattle.dpl_run.specs.Outcome.{Outcome, code_of, is_answered}
use Rattle.dpl_run.specs.Program.{IsInput, IsMade}
use Rattle.dpl_decide.specs.Deciding.{Decides, Decision as DecisionOf, IsDecision, Refuses}
use Rattle.dpl_run.specs.Split.{IsSplit, plan_of, split_spacing}
use Rattle.dpl_decide.specs.View.{decision_view}
use Rattle.dpl_decide.specs.declared.pipeline.Decision.{Decision}
use Rattle.dpl_run.specs.declared.status.Status.{Status}
use Rattle.dpl_run.specs.declared.status.Status.TheVariants.{Done, Conflict, Refused as IsRefused}
use Rattle.dpl_decide.proofs.Zips.{zip_weaker}

-- ---- the outcome

-- each layer has the outcome of its decision
each_split : (v : BatchValues) (bytes : List ℕ) (layers : List ℕ) (ds : List Decision)
    → AllZip (λ layer d. IsDecision false (layer_choice v.top v.datatype layer) (split_spacing (split_of v layer)) v.overlap bytes (decision_view d)) layers ds
    → AllZip (λ layer y. IsSplit (split_of v layer) bytes y) layers (each_decided v layers ds)
each_split v bytes [] [] all = tt
each_split v bytes [] (d ∷ ds) all = absurd all
each_split v bytes (layer ∷ layers) [] all = absurd all
each_split v bytes (layer ∷ layers) (d ∷ ds) all = ((decision_view d, all.0, refl), each_split v bytes layers ds all.1)

pub batch_of : (v : BatchValues) (bytes : List ℕ) (ds : List Decision) (x : Outcome)
    → AllZip (λ layer d. IsDecision false (layer_choice v.top v.datatype layer) (split_spacing (split_of v layer)) v.overlap bytes (decision_view d)) v.layers ds
    → x ≡ decided_together v v.layers ds → IsBatch v bytes x
batch_of v bytes ds x all is = (each_decided v v.layers ds, each_split v bytes v.layers ds all, is)

-- ---- its answer

greater_keeps : (P : Status → Type 0) (s t : Status) → P s → P t → P (greater s t)
greater_keeps P s t first second = go (nat_lt (code_of s) (code_of t))
  where
    go : (b : Bool) → P (if b then t else s)
    go true = second
    go false = first

module _ (P : Status → Type 0) (done : P Done) (conflict : P Conflict) (refused : P IsRefused) (v : BatchValues) (bytes : List ℕ) where
  plan_keeps : (layer : ℕ) (d : DecisionOf) → P (plan_of (split_of v layer) d).status
  plan_keeps layer (Refuses name at) = refused
  plan_keeps layer (Decides copied (Paints p)) = done
  plan_keeps layer (Decides copied (Clashes x)) = conflict

  each_keeps : (layers : List ℕ) (xs : List Outcome) (s : Status) → P s → AllZip (λ layer y. IsSplit (split_of v layer) bytes y) layers xs
      → P (fold greater s (map (λ (x : Outcome). x.status) xs))
  each_keeps [] [] s kept all = kept
  each_keeps [] (x ∷ xs) s kept all = absurd all
  each_keeps (layer ∷ layers) [] s kept all = absurd all
  each_keeps (layer ∷ layers) (x ∷ xs) s kept all =
      let one : P x.status = subst (λ (y : Outcome). P y.status) (sym all.0.2) (plan_keeps layer all.0.0) in
      each_keeps layers xs (greater s x.status) (greater_keeps P s x.status kept one) all.1

  -- what holds of the answer of each layer holds of that of all
  pub batch_keeps : (x : Outcome) → IsBatch v bytes x → P x.status
  batch_keeps x (xs, all, is) = subst (λ (y : Outcome). P y.status) (sym is) (each_keeps v.layers xs Done done all)

batch_answered : (v : BatchValues) (bytes : List ℕ) (x : Outcome) → IsBatch v bytes x → is_answered x.status ≡ true
batch_answered v bytes = batch_keeps (λ s. is_answered s ≡ true) refl refl refl v bytes

of_file : (v : BatchValues) (file : Option (List ℕ)) (bytes : List ℕ) (x : Outcome) → file ≡ Some bytes → IsBatch v bytes x → IsBatchOf v file x
of_file v file bytes x is h = subst (λ (f : Option (List ℕ)). IsBatchOf v f x) (sym is) h

pub batch_made : (told : Option Outside) (v : BatchValues) (bytes : List ℕ) (x : Outcome) → IsInput told v.input (Some bytes) → IsBatch v bytes x
    → IsMade (Some (AsksBatch v)) told x
batch_made told v bytes x h is = (h.0, h.1, of_file v _ bytes x h.2 is, batch_answered v bytes x is)

-- a file that is too large is a fault of each layer
refused_each : (v : BatchValues) (bytes : List ℕ) (layers : List ℕ) (ds : List Decision) → 268435456 < length bytes
    → AllZip (λ (layer : ℕ) d. decision_view d ≡ Refuses TooLarge 268435456) layers ds
    → AllZip (λ layer d. IsDecision false (layer_choice v.top v.datatype layer) (split_spacing (split_of v layer)) v.overlap bytes (decision_view d)) layers ds
refused_each v bytes layers ds large all = zip_weaker _ _ layers ds
    (λ layer d is. subst (λ (x : DecisionOf). IsDecision false (layer_choice v.top v.datatype layer) (split_spacing (split_of v layer)) v.overlap bytes x) (sym is) (inl (large, refl))) all

pub batch_refused : (told : Option Outside) (v : BatchValues) (ds : List Decision) (x : Outcome) → IsInput told v.input None
    → AreDecidedFor TooLarge 268435456 v.layers ds → x ≡ decided_together v v.layers ds → IsMade (Some (AsksBatch v)) told x
batch_refused told v ds x h refused is =
    let (file, there, large) = h.2 in
    let batch = batch_of v file ds x (refused_each v file v.layers ds large refused.0) is in
    (h.0, h.1, of_file v _ file x there batch, batch_answered v file x batch)

-- names that are those of the layer's files
pub plan_named : (v : BatchValues) (layer : ℕ) (out cert : Text) (d : DecisionOf) → out ≡ mask_name v.prefix layer → cert ≡ certificate_name v.prefix layer
    → plan_of (record (split_of v layer) { output = out; certificate = cert }) d ≡ plan_of (split_of v layer) d
plan_named v layer out cert d masks certificate =
    ap (λ (name : Text). plan_of (record (split_of v layer) { output = name; certificate = cert }) d) masks
    ∙ ap (λ (name : Text). plan_of (record (split_of v layer) { certificate = name }) d) certificate
