-- Many layers on the way to their decisions.
use Rattle.std.specs.Prelude.{◌≡◌, ℕ, false, List, [], ◌∷◌, None, All}
use Rattle.std.specs.List.{AllZip}
use Rattle.dpl_spec_split.specs.declared.Spacing.{Spacing}
use Rattle.dpl_spec_split.specs.Squares.{Covers}
use Rattle.dpl_cut.specs.Cutting.{HasPointKeys, IsBareCutOf}
use Rattle.dpl_cut.specs.declared.BareLayerCut.{BareLayerCut}
use Rattle.dpl_layer.specs.declared.many.ReadLayer.{ReadLayer}
use Rattle.dpl_layer.specs.declared.many.ReadLayer.TheVariants.{Refused, Read}
use Rattle.dpl_answer.specs.Flat.{IsFlat}
use Rattle.dpl_answer.specs.View.{flat_view}
use Rattle.dpl_decide.specs.View.{FitsDecision}
use Rattle.dpl_decide.specs.declared.pipeline.Decision.{Decision}
use Rattle.dpl_decide.specs.declared.pipeline.Decision.TheVariants.{Answered, Refused as RefusedFile}
use Rattle.dpl_decide.specs.declared.many.Waiting.{Waiting}
use Rattle.dpl_decide.specs.declared.many.Waiting.TheVariants.{Cut, Refused as RefusedLayer}

-- the layers that have no fault are cut, in order, and the others keep their fault
abbrev pub AreWaiting : Spacing → ℕ → List ReadLayer → List Waiting → List BareLayerCut → Type 0
AreWaiting spacing overlap [] [] [] = Unit {0}
AreWaiting spacing overlap (Refused name at ∷ ls) (RefusedLayer n a ∷ ws) cuts = (n ≡ name) × (a ≡ at) × AreWaiting spacing overlap ls ws cuts
AreWaiting spacing overlap (Read l ∷ ls) (Cut copied ∷ ws) (c ∷ cs) =
    (copied.items ≡ l.copied.items) × IsBareCutOf None spacing overlap (Covers l.slabs) c × HasPointKeys c × AreWaiting spacing overlap ls ws cs
AreWaiting spacing overlap _ _ _ = ⊥

-- what is decided of a layer that was read
abbrev pub IsDecidedFrom : Spacing → ℕ → ReadLayer → Decision → Type 0
IsDecidedFrom spacing overlap (Refused name at) (RefusedFile n a) = (n ≡ name) × (a ≡ at)
IsDecidedFrom spacing overlap (Read l) (Answered copied answer) = (copied.items ≡ l.copied.items) × IsFlat false None spacing overlap l.slabs (flat_view answer)
IsDecidedFrom spacing overlap _ _ = ⊥

-- each layer is decided, and each decision can be written
abbrev pub AreDecidedFrom : Spacing → ℕ → List ReadLayer → List Decision → Type 0
AreDecidedFrom spacing overlap layers ds = AllZip (IsDecidedFrom spacing overlap) layers ds × All FitsDecision ds
