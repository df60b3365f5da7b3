-- The answer to a layer: its pieces, and their colours or the reported cycle.
use Rattle.std.specs.Prelude.{◌≡◌, ℕ, List, length, None}
use Rattle.dpl_spec_split.specs.declared.Spacing.{Spacing}
use Rattle.dpl_spec_split.specs.Squares.{Region}
use Rattle.dpl_spec_split.specs.Graphs.{Graph}
use Rattle.dpl_spec_split.specs.Summary.{HasOddCycle}
use Rattle.dpl_spec_split.specs.Cycle.{IsReported}
use Rattle.dpl_spec_split.specs.Decomposition.{Cut, IsCut, conflicts}
use Rattle.dpl_orient.specs.Oriented.{IsColouring}
use Rattle.dpl_session.specs.declared.verdict.Verdict.{Verdict}
use Rattle.dpl_session.specs.declared.verdict.Verdict.TheVariants.{Even, Odd}
use Rattle.dpl_session.specs.declared.session.Answer.{Answer}
use Rattle.dpl_session.specs.declared.session.Answer.TheVariants.{Done as Painted, Odd as Clash}

-- the colours of a graph on the numbers below n that has no odd cycle, or the cycle that is reported of one that has one
abbrev pub Decides : Graph → ℕ → List (ℕ × ℕ) → Verdict → Type 0
Decides joined n sides (Even colours) = ¬ HasOddCycle joined × IsColouring joined n sides colours
Decides joined n sides (Odd cycle) = HasOddCycle joined × IsReported joined cycle

-- what an answer says of the conflicts of a cut: its pieces, with their colours where the conflicts have no odd cycle, else with the cycle that is reported
abbrev pub IsAnswerOf : Spacing → Cut → Answer → Type 0
IsAnswerOf spacing c (Painted pieces colours) =
    (pieces.now ≡ c.pieces) × ¬ HasOddCycle (conflicts spacing c) × IsColouring (conflicts spacing c) (length c.pieces) c.sides colours.now
IsAnswerOf spacing c (Clash pieces cycle) = (pieces.now ≡ c.pieces) × HasOddCycle (conflicts spacing c) × IsReported (conflicts spacing c) cycle.now

-- the answer to a layer: that of the layer's cut
abbrev pub IsAnswerTo : Spacing → ℕ → Region → Answer → Type 0
IsAnswerTo spacing overlap layer answer = (c : Cut) × IsCut None spacing overlap layer c × IsAnswerOf spacing c answer
