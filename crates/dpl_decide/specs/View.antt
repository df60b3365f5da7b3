-- What was decided, in the words of the definitions.
use Rattle.dpl_answer.specs.Flat.{Fits}
use Rattle.dpl_answer.specs.View.{flat_view}
use Rattle.dpl_decide.specs.Deciding.{Decides, Decision as DecisionOf, Refuses}
use Rattle.dpl_decide.specs.declared.pipeline.Decision.{Decision}
use Rattle.dpl_decide.specs.declared.pipeline.Decision.TheVariants.{Answered, Refused}

abbrev pub decision_view : Decision → DecisionOf
decision_view (Refused name at) = Refuses name at
decision_view (Answered copied answer) = Decides copied.items (flat_view answer)

-- what is decided can be written
abbrev pub FitsDecision : Decision → Type 0
FitsDecision (Refused name at) = Unit {0}
FitsDecision (Answered copied answer) = Fits (flat_view answer)
