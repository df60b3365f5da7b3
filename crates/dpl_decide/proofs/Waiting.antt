-- Layers on the way to their decisions, one after another.
use Rattle.std.proofs.Common.{◌≡◌, ◌∙◌, ◌++◌, ◌∷◌, [], List, ℕ, None, Vec, Global, append_assoc, false, refl, subst, sym}
use Rattle.std.specs.Prelude.{All}
use Rattle.std.specs.List.{AllZip}
use Rattle.std.proofs.lemmas.List.{append-nil}
use Rattle.dpl_spec_split.specs.declared.Spacing.{Spacing}
use Rattle.dpl_cert.specs.declared.name.Name.{Name}
use Rattle.dpl_piece.specs.View.{cut_view}
use Rattle.dpl_cut.specs.Cutting.{HasPointKeys, OfCompleted}
use Rattle.dpl_cut.specs.declared.BareLayerCut.{BareLayerCut}
use Rattle.dpl_layer.specs.declared.layer.Layer.{Layer}
use Rattle.dpl_layer.specs.declared.many.ReadLayer.{ReadLayer}
use Rattle.dpl_layer.specs.declared.many.ReadLayer.TheVariants.{Refused, Read}
use Rattle.dpl_answer.specs.Flat.{IsFlatCut}
use Rattle.dpl_answer.specs.View.{flat_view}
use Rattle.dpl_answer.specs.declared.decomposed.Decomposed.{Decomposed}
use Rattle.dpl_decide.specs.View.{FitsDecision}
use Rattle.dpl_decide.specs.Waits.{AreDecidedFrom, AreWaiting, IsDecidedFrom}
use Rattle.dpl_decide.specs.declared.pipeline.Decision.{Decision}
use Rattle.dpl_decide.specs.declared.pipeline.Decision.TheVariants.{Answered, Refused as RefusedFile}
use Rattle.dpl_decide.specs.declared.many.Waiting.{Waiting}
use Rattle.dpl_decide.specs.declared.many.Waiting.TheVariants.{Cut, Refused as RefusedLayer}
use Rattle.dpl_decide.proofs.Zips.{zip_next}

-- ---- some of the layers wait

-- one more layer, which has a fault
pub wait_refused : (spacing : Spacing) (overlap : ℕ) (ls : List ReadLayer) (ws : List Waiting) (cs : List BareLayerCut) (name : Name) (at : ℕ)
    → AreWaiting spacing overlap ls ws cs → AreWaiting spacing overlap (ls ++ Refused name at ∷ []) (ws ++ RefusedLayer name at ∷ []) cs
wait_refused spacing overlap [] [] [] name at all = (refl, refl, tt)
wait_refused spacing overlap [] [] (c ∷ cs) name at all = absurd all
wait_refused spacing overlap [] (w ∷ ws) cs name at all = absurd all
wait_refused spacing overlap (Refused m b ∷ ls) [] cs name at all = absurd all
wait_refused spacing overlap (Refused m b ∷ ls) (RefusedLayer n a ∷ ws) cs name at all = (all.0, all.1, wait_refused spacing overlap ls ws cs name at all.2)
wait_refused spacing overlap (Refused m b ∷ ls) (Cut copied ∷ ws) cs name at all = absurd all
wait_refused spacing overlap (Read l ∷ ls) [] cs name at all = absurd all
wait_refused spacing overlap (Read l ∷ ls) (RefusedLayer n a ∷ ws) cs name at all = absurd all
wait_refused spacing overlap (Read l ∷ ls) (Cut copied ∷ ws) [] name at all = absurd all
wait_refused spacing overlap (Read l ∷ ls) (Cut copied ∷ ws) (c ∷ cs) name at all = (all.0, all.1, all.2, wait_refused spacing overlap ls ws cs name at all.3)

-- one more layer, which is cut
pub wait_cut : (spacing : Spacing) (overlap : ℕ) (ls : List ReadLayer) (ws : List Waiting) (cs : List BareLayerCut) (l : Layer) (w : Waiting) (c : BareLayerCut)
    → AreWaiting spacing overlap ls ws cs → AreWaiting spacing overlap (Read l ∷ []) (w ∷ []) (c ∷ [])
    → AreWaiting spacing overlap (ls ++ Read l ∷ []) (ws ++ w ∷ []) (cs ++ c ∷ [])
wait_cut spacing overlap [] [] [] r w d all one = one
wait_cut spacing overlap [] [] (c ∷ cs) r w d all one = absurd all
wait_cut spacing overlap [] (v ∷ ws) cs r w d all one = absurd all
wait_cut spacing overlap (Refused m b ∷ ls) [] cs r w d all one = absurd all
wait_cut spacing overlap (Refused m b ∷ ls) (RefusedLayer n a ∷ ws) cs r w d all one = (all.0, all.1, wait_cut spacing overlap ls ws cs r w d all.2 one)
wait_cut spacing overlap (Refused m b ∷ ls) (Cut copied ∷ ws) cs r w d all one = absurd all
wait_cut spacing overlap (Read l ∷ ls) [] cs r w d all one = absurd all
wait_cut spacing overlap (Read l ∷ ls) (RefusedLayer n a ∷ ws) cs r w d all one = absurd all
wait_cut spacing overlap (Read l ∷ ls) (Cut copied ∷ ws) [] r w d all one = absurd all
wait_cut spacing overlap (Read l ∷ ls) (Cut copied ∷ ws) (c ∷ cs) r w d all one = (all.0, all.1, all.2, wait_cut spacing overlap ls ws cs r w d all.3 one)

-- ---- some of the layers are decided

pub record AreHalfway (spacing : Spacing) (overlap : ℕ) (layers : List ReadLayer) (ws : List Waiting) (cs : List BareLayerCut) (ds : List Decision) : Type 0 where
  pub met : List ReadLayer
  pub left : List ReadLayer
  pub are : layers ≡ met ++ left
  pub decided : AllZip (IsDecidedFrom spacing overlap) met ds
  pub waits : AreWaiting spacing overlap left ws cs

pub none_met : (spacing : Spacing) (overlap : ℕ) (layers : List ReadLayer) (ws : List Waiting) (cs : List BareLayerCut)
    → AreWaiting spacing overlap layers ws cs → AreHalfway spacing overlap layers ws cs []
none_met spacing overlap layers ws cs waits = record { met = []; left = layers; are = refl; decided = tt; waits = waits }

-- at the next layer, which has a fault
pub half_refused : (spacing : Spacing) (overlap : ℕ) (layers : List ReadLayer) (ws : List Waiting) (cs : List BareLayerCut) (ds : List Decision) (name : Name) (at : ℕ)
    → AreHalfway spacing overlap layers (RefusedLayer name at ∷ ws) cs ds → AreHalfway spacing overlap layers ws cs (ds ++ RefusedFile name at ∷ [])
half_refused spacing overlap layers ws cs ds name at half = go half.left half.are half.waits
  where
    go : (left : List ReadLayer) → layers ≡ half.met ++ left → AreWaiting spacing overlap left (RefusedLayer name at ∷ ws) cs
        → AreHalfway spacing overlap layers ws cs (ds ++ RefusedFile name at ∷ [])
    go [] are waits = absurd waits
    go (Read l ∷ left) are waits = absurd waits
    go (Refused n a ∷ left) are waits = record {
      met = half.met ++ Refused n a ∷ [];
      left = left;
      are = are ∙ sym (append_assoc half.met (Refused n a ∷ []) left);
      decided = zip_next (IsDecidedFrom spacing overlap) half.met ds (Refused n a) (RefusedFile name at) half.decided (waits.0, waits.1);
      waits = waits.2;
    }

-- the answer to a cut
abbrev pub IsAnswerTo : Spacing → ℕ → BareLayerCut → Decomposed → Type 0
IsAnswerTo spacing overlap c answer = OfCompleted c (λ cut. IsFlatCut false None spacing overlap cut (flat_view answer))

-- at the next layer, which is cut
pub half_cut : (spacing : Spacing) (overlap : ℕ) (layers : List ReadLayer) (ws : List Waiting) (c : BareLayerCut) (cs : List BareLayerCut) (ds : List Decision)
    (copied : Vec ℕ Global) (answer : Decomposed) → IsAnswerTo spacing overlap c answer
    → AreHalfway spacing overlap layers (Cut copied ∷ ws) (c ∷ cs) ds → AreHalfway spacing overlap layers ws cs (ds ++ Answered copied answer ∷ [])
half_cut spacing overlap layers ws c cs ds copied answer answers half = go half.left half.are half.waits
  where
    go : (left : List ReadLayer) → layers ≡ half.met ++ left → AreWaiting spacing overlap left (Cut copied ∷ ws) (c ∷ cs)
        → AreHalfway spacing overlap layers ws cs (ds ++ Answered copied answer ∷ [])
    go [] are waits = absurd waits
    go (Refused n a ∷ left) are waits = absurd waits
    go (Read l ∷ left) are waits =
        let (features, many, is) = waits.1 in
        let (pieces, completed, flat) = answers in
        record {
          met = half.met ++ Read l ∷ [];
          left = left;
          are = are ∙ sym (append_assoc half.met (Read l ∷ []) left);
          decided = zip_next (IsDecidedFrom spacing overlap) half.met ds (Read l) (Answered copied answer) half.decided
              (waits.0, (cut_view features pieces, is pieces completed, flat features many));
          waits = waits.3;
        }

-- a layer that is cut has a cut
pub none_cut : (spacing : Spacing) (overlap : ℕ) (layers : List ReadLayer) (ws : List Waiting) (cs : List BareLayerCut) (ds : List Decision) (copied : Vec ℕ Global)
    → cs ≡ [] → AreHalfway spacing overlap layers (Cut copied ∷ ws) cs ds → ⊥
none_cut spacing overlap layers ws cs ds copied none half = go half.left cs none half.waits
  where
    go : (left : List ReadLayer) (cs : List BareLayerCut) → cs ≡ [] → AreWaiting spacing overlap left (Cut copied ∷ ws) cs → ⊥
    go [] cs none waits = waits
    go (Refused n a ∷ left) cs none waits = waits
    go (Read l ∷ left) [] none waits = waits
    go (Read l ∷ left) (c ∷ cs) none waits = cc

-- all are decided
pub all_met : (spacing : Spacing) (overlap : ℕ) (layers : List ReadLayer) (cs : List BareLayerCut) (ds : List Decision) → AreHalfway spacing overlap layers [] cs ds
    → All FitsDecision ds → AreDecidedFrom spacing overlap layers ds
all_met spacing overlap layers cs ds half fits = go half.left half.are half.waits
  where
    go : (left : List ReadLayer) → layers ≡ half.met ++ left → AreWaiting spacing overlap left [] cs → AreDecidedFrom spacing overlap layers ds
    go [] are waits = (subst (λ (ls : List ReadLayer). AllZip (IsDecidedFrom spacing overlap) ls ds) (sym (are ∙ append-nil half.met)) half.decided, fits)
    go (Refused n a ∷ left) are waits = absurd waits
    go (Read l ∷ left) are waits = absurd waits

-- the next cut has its keys in the range of certificates
pub next_keys : (spacing : Spacing) (overlap : ℕ) (layers : List ReadLayer) (ws : List Waiting) (c : BareLayerCut) (cs : List BareLayerCut) (ds : List Decision)
    (copied : Vec ℕ Global) → AreHalfway spacing overlap layers (Cut copied ∷ ws) (c ∷ cs) ds → HasPointKeys c
next_keys spacing overlap layers ws c cs ds copied half = go half.left half.waits
  where
    go : (left : List ReadLayer) → AreWaiting spacing overlap left (Cut copied ∷ ws) (c ∷ cs) → HasPointKeys c
    go [] waits = absurd waits
    go (Refused n a ∷ left) waits = absurd waits
    go (Read l ∷ left) waits = waits.2
