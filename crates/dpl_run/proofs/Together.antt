-- What many layers lead to together, layer by layer.
use Rattle.std.proofs.Common.{◌≡◌, ◌∙◌, ◌++◌, ◌∷◌, [], List, ℕ, ap, length, map, refl, sym}
use Rattle.std.specs.List.{flat_map, zip}
use Rattle.std.proofs.lemmas.List.{append-nil, length-map, map-append}
use Rattle.std.proofs.lemmas.Grind.{flat_map-append, fold-append}
use Rattle.clap.specs.Walk.{Text}
use Rattle.dpl_words.specs.Meaning.{BatchValues}
use Rattle.dpl_texts.specs.Texts.{layer_line}
use Rattle.dpl_run.specs.Batch.{greater, greatest, split_of, together}
use Rattle.dpl_run.specs.BatchMade.{IsAdded, decided_together, each_decided}
use Rattle.dpl_run.specs.Outcome.{Outcome}
use Rattle.dpl_run.specs.Split.{plan_of}
use Rattle.dpl_decide.specs.View.{decision_view}
use Rattle.dpl_decide.specs.declared.pipeline.Decision.{Decision}
use Rattle.dpl_run.specs.declared.status.Status.{Status}
use Rattle.dpl_run.specs.declared.status.Status.TheVariants.{Done}
use Rattle.dpl_decide.proofs.Zips.{zip_more}

same_parts : (s t : Status) (u v : List (Text × List ℕ)) (l m : List ℕ) → s ≡ t → u ≡ v → l ≡ m
    → ◌≡◌ {A = Outcome} (record { status = s; writes = u; line = l }) (record { status = t; writes = v; line = m })
same_parts s t u v l m a b c = cc

-- one more layer
pub together_next : (layers : List ℕ) (xs : List Outcome) (layer : ℕ) (x old new : Outcome) → length layers ≡ length xs → old ≡ together layers xs
    → IsAdded layer x old new → new ≡ together (layers ++ layer ∷ []) (xs ++ x ∷ [])
together_next layers xs layer x old new same is added =
    same_parts new.status _ new.writes _ new.line _
    (added.status ∙ ap (λ (y : Outcome). greater y.status x.status) is
    ∙ sym (ap greatest (map-append (λ (y : Outcome). y.status) xs (x ∷ [])) ∙ fold-append greater Done (map (λ (y : Outcome). y.status) xs) (x.status ∷ [])))
    (added.writes ∙ ap (λ (y : Outcome). y.writes ++ x.writes) is ∙ ap (λ ws. flat_map (λ (y : Outcome). y.writes) xs ++ ws) (sym (append-nil x.writes))
    ∙ sym (flat_map-append (λ (y : Outcome). y.writes) xs (x ∷ [])))
    (added.line ∙ ap (λ (y : Outcome). y.line ++ layer_line layer x.line) is
    ∙ ap (λ l. flat_map (λ (p : ℕ × Outcome). layer_line p.0 p.1.line) (zip layers xs) ++ l) (sym (append-nil (layer_line layer x.line)))
    ∙ sym (ap (flat_map (λ (p : ℕ × Outcome). layer_line p.0 p.1.line)) (zip_more layers xs layer x same)
    ∙ flat_map-append (λ (p : ℕ × Outcome). layer_line p.0 p.1.line) (zip layers xs) ((layer, x) ∷ [])))

zip_count : {A B : Type 0} (xs : List A) (ys : List B) → length xs ≡ length ys → length (zip xs ys) ≡ length xs
zip_count [] [] same = refl
zip_count [] (y ∷ ys) same = refl
zip_count (x ∷ xs) [] same = cc
zip_count (x ∷ xs) (y ∷ ys) same = (let here = zip_count xs ys (cc) in cc)

-- one more decision
pub decided_next : (v : BatchValues) (layers : List ℕ) (ds : List Decision) (layer : ℕ) (d : Decision) (x old new : Outcome) → length layers ≡ length ds
    → old ≡ decided_together v layers ds → x ≡ plan_of (split_of v layer) (decision_view d) → IsAdded layer x old new
    → new ≡ decided_together v (layers ++ layer ∷ []) (ds ++ d ∷ [])
decided_next v layers ds layer d x old new same is planned added =
    let plan : ℕ × Decision → Outcome = λ p. plan_of (split_of v p.0) (decision_view p.1) in
    let as_many : length layers ≡ length (each_decided v layers ds) = sym (length-map (zip layers ds) plan ∙ zip_count layers ds same) in
    together_next layers (each_decided v layers ds) layer x old new as_many is added
    ∙ ap (λ ys. together (layers ++ layer ∷ []) (each_decided v layers ds ++ ys)) (ap (λ y. y ∷ []) planned)
    ∙ sym (ap (together (layers ++ layer ∷ [])) (ap (map plan) (zip_more layers ds layer d same) ∙ map-append plan (zip layers ds) ((layer, d) ∷ [])))
