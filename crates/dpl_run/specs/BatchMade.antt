-- What was made of the layers of a batch so far.
use Rattle.std.specs.Prelude.{◌≡◌, ◌++◌, ℕ, List, All, map}
use Rattle.std.specs.List.{AllZip, zip}
use Rattle.dpl_cert.specs.declared.name.Name.{Name}
use Rattle.dpl_words.specs.Meaning.{BatchValues}
use Rattle.dpl_decide.specs.Deciding.{Refuses}
use Rattle.dpl_decide.specs.View.{FitsDecision, decision_view}
use Rattle.dpl_decide.specs.declared.pipeline.Decision.{Decision}
use Rattle.dpl_texts.specs.Texts.{layer_line}
use Rattle.dpl_run.specs.Batch.{greater, split_of, together}
use Rattle.dpl_run.specs.Outcome.{Outcome}
use Rattle.dpl_run.specs.Split.{plan_of}

-- one fault for each layer
abbrev pub AreDecidedFor : Name → ℕ → List ℕ → List Decision → Type 0
AreDecidedFor name at layers decisions = AllZip (λ (layer : ℕ) d. decision_view d ≡ Refuses name at) layers decisions × All FitsDecision decisions

-- what the decisions of these layers lead to, each by itself and together
abbrev pub each_decided : BatchValues → List ℕ → List Decision → List Outcome
each_decided v layers decisions = map (λ (p : ℕ × Decision). plan_of (split_of v p.0) (decision_view p.1)) (zip layers decisions)

abbrev pub decided_together : BatchValues → List ℕ → List Decision → Outcome
decided_together v layers decisions = together layers (each_decided v layers decisions)

-- what was made of one more layer stands behind the rest
pub record IsAdded (layer : ℕ) (one old new : Outcome) : Type 0 where
  pub status : new.status ≡ greater old.status one.status
  pub writes : new.writes ≡ old.writes ++ one.writes
  pub line : new.line ≡ old.line ++ layer_line layer one.line
