-- From what is read of layers to their decisions.
use Rattle.std.proofs.Common.{◌≤◌, [], List, ℕ, Bool, Option, None, false, inl, inr, length, refl, subst, sym}
use Rattle.std.specs.List.{AllZip}
use Rattle.dpl_spec_split.specs.declared.Spacing.{Spacing}
use Rattle.dpl_spec_split.specs.declared.Rect.{Rect}
use Rattle.dpl_cert.specs.declared.name.Name.{Name}
use Rattle.dpl_layer.specs.Many.{IsReadOf, read_view}
use Rattle.dpl_layer.specs.View.{choice_view}
use Rattle.dpl_layer.specs.Marked.{FaultyMarked, IsMarkedLayout, MarkedChoice, MarkedLayer}
use Rattle.dpl_layer.specs.Reading.{Choice, Faulty, IsLayout, Layer as LayerRead}
use Rattle.dpl_layer.specs.declared.layer.LayerChoice.{LayerChoice}
use Rattle.dpl_layer.specs.declared.many.ReadLayer.{ReadLayer}
use Rattle.dpl_layer.specs.declared.many.ReadLayer.TheVariants.{Refused, Read}
use Rattle.dpl_answer.specs.Flat.{Flat, IsFlat}
use Rattle.dpl_answer.specs.View.{flat_view}
use Rattle.dpl_decide.specs.Deciding.{Decides, IsDecision, Refuses, marks_for}
use Rattle.dpl_decide.specs.Many.{AreDecisions, IsChosen, layer_choice}
use Rattle.dpl_decide.specs.View.{decision_view}
use Rattle.dpl_decide.specs.Waits.{AreDecidedFrom, IsDecidedFrom}
use Rattle.dpl_decide.specs.declared.pipeline.Decision.{Decision}
use Rattle.dpl_decide.specs.declared.pipeline.Decision.TheVariants.{Answered, Refused as RefusedFile}
use Rattle.dpl_decide.proofs.Zips.{zip_through}

-- ---- one layer

-- the layout has a fault
pub faulty : (fewer : Bool) (choice : MarkedChoice) (spacing : Spacing) (overlap : ℕ) (bytes : List ℕ) (name : Name) (at : ℕ) → length bytes ≤ 268435456
    → IsMarkedLayout choice bytes (FaultyMarked name at) → IsDecision fewer choice spacing overlap bytes (Refuses name at)
faulty fewer choice spacing overlap bytes name at small read = inr (small, read)

-- the layer was decomposed
pub answered : (fewer : Bool) (choice : MarkedChoice) (spacing : Spacing) (overlap : ℕ) (bytes copied : List ℕ) (layer a b : List Rect) (flat : Flat) → length bytes ≤ 268435456
    → IsMarkedLayout choice bytes (MarkedLayer copied layer a b) → IsFlat fewer (marks_for choice a b) spacing overlap layer flat → IsDecision fewer choice spacing overlap bytes (Decides copied flat)
answered fewer choice spacing overlap bytes copied layer a b flat small read decomposed = (layer, a, b, inr (small, read), decomposed)

-- ---- a layer without markers

bare_fault : (layer : Choice) (bytes : List ℕ) (name : Name) (at : ℕ) → IsLayout layer bytes (Faulty name at)
    → IsMarkedLayout (record { layer = layer; mark_a = None; mark_b = None }) bytes (FaultyMarked name at)
bare_fault layer bytes name at (inl early) = inl early
bare_fault layer bytes name at (inr (lib, holds, fault)) = inr (lib, holds, inl fault)

bare_layer : (layer : Choice) (bytes copied : List ℕ) (slabs : List Rect) → IsLayout layer bytes (LayerRead copied slabs)
    → IsMarkedLayout (record { layer = layer; mark_a = None; mark_b = None }) bytes (MarkedLayer copied slabs [] [])
bare_layer layer bytes copied slabs (lib, holds, is) =
    (lib, holds, record { layer = is; faultless_a = tt; faultless_b = tt; marked_a = refl; marked_b = refl })

-- ---- from what is read of each layer to its decision

module _ (top : Option (List ℕ)) (datatype : ℕ) (spacing : Spacing) (overlap : ℕ) (bytes : List ℕ) (small : length bytes ≤ 268435456) where
  one_decided : (layer : Choice) (read : ReadLayer) (d : Decision) → IsLayout layer bytes (read_view read) → IsDecidedFrom spacing overlap read d
      → IsDecision false (record { layer = layer; mark_a = None; mark_b = None }) spacing overlap bytes (decision_view d)
  one_decided layer (Refused name at) (RefusedFile n a) is from =
      subst (λ (m : Name). IsDecision false (record { layer = layer; mark_a = None; mark_b = None }) spacing overlap bytes (Refuses m a)) (sym from.0)
      (subst (λ (b : ℕ). IsDecision false (record { layer = layer; mark_a = None; mark_b = None }) spacing overlap bytes (Refuses name b)) (sym from.1)
      (inr (small, bare_fault layer bytes name at is)))
  one_decided layer (Refused name at) (Answered copied answer) is from = absurd from
  one_decided layer (Read l) (RefusedFile n a) is from = absurd from
  one_decided layer (Read l) (Answered copied answer) is from =
      subst (λ (before : List ℕ). IsDecision false (record { layer = layer; mark_a = None; mark_b = None }) spacing overlap bytes (Decides before (flat_view answer))) (sym from.0)
      (l.slabs, [], [], inr (small, bare_layer layer bytes l.copied.items l.slabs is), from.1)

  chosen_decided : (layer : ℕ) (choice : LayerChoice) (d : Decision) → IsChosen top datatype layer choice
      → IsDecision false (record { layer = choice_view choice; mark_a = None; mark_b = None }) spacing overlap bytes (decision_view d)
      → IsDecision false (layer_choice top datatype layer) spacing overlap bytes (decision_view d)
  chosen_decided layer choice d is h =
      subst (λ (c : Choice). IsDecision false (record { layer = c; mark_a = None; mark_b = None }) spacing overlap bytes (decision_view d)) is h

  pub layers_decided : (layers : List ℕ) (choices : List LayerChoice) (reads : List ReadLayer) (ds : List Decision) → AllZip (IsChosen top datatype) layers choices
      → AllZip (IsReadOf bytes) choices reads → AreDecidedFrom spacing overlap reads ds → AreDecisions top datatype layers spacing overlap bytes ds
  layers_decided layers choices reads ds chosen read from = record {
    each = zip_through (IsChosen top datatype) (λ (choice : LayerChoice) d. IsDecision false
        (record { layer = choice_view choice; mark_a = None; mark_b = None }) spacing overlap bytes (decision_view d))
        (λ layer d. IsDecision false (layer_choice top datatype layer) spacing overlap bytes (decision_view d)) layers choices ds
        (λ layer choice d is h. chosen_decided layer choice d is h) chosen
        (zip_through (IsReadOf bytes) (IsDecidedFrom spacing overlap) (λ (choice : LayerChoice) d. IsDecision false
        (record { layer = choice_view choice; mark_a = None; mark_b = None }) spacing overlap bytes (decision_view d))
        choices reads ds (λ choice r d is h. one_decided (choice_view choice) r d is h) read from.0);
    fits = from.1;
  }
