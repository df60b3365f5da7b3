-- Many layers of one file, each decided as if it were alone.
use Rattle.std.specs.Prelude.{◌≡◌, ℕ, false, List, All, None, Option}
use Rattle.std.specs.List.{AllZip}
use Rattle.dpl_spec_split.specs.declared.Spacing.{Spacing}
use Rattle.dpl_layer.specs.Marked.{MarkedChoice}
use Rattle.dpl_layer.specs.View.{choice_view}
use Rattle.dpl_layer.specs.declared.layer.LayerChoice.{LayerChoice}
use Rattle.dpl_decide.specs.Deciding.{IsDecision}
use Rattle.dpl_decide.specs.View.{FitsDecision, decision_view}
use Rattle.dpl_decide.specs.declared.pipeline.Decision.{Decision}

-- the choice of a layer without markers
abbrev pub layer_choice : Option (List ℕ) → ℕ → ℕ → MarkedChoice
layer_choice top datatype layer = record { layer = record { top = top; layer = layer; datatype = datatype }; mark_a = None; mark_b = None }

-- what is taken of a layout for the layer
abbrev pub IsChosen : Option (List ℕ) → ℕ → ℕ → LayerChoice → Type 0
IsChosen top datatype layer choice = choice_view choice ≡ (layer_choice top datatype layer).layer

-- each layer is decided as if it were alone
pub record AreDecisions (top : Option (List ℕ)) (datatype : ℕ) (layers : List ℕ) (spacing : Spacing) (overlap : ℕ) (bytes : List ℕ) (ds : List Decision) : Type 0 where
  pub each : AllZip (λ layer d. IsDecision false (layer_choice top datatype layer) spacing overlap bytes (decision_view d)) layers ds
  pub fits : All FitsDecision ds
