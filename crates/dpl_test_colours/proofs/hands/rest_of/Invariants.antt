use Rattle.std.proofs.Common.{ℕ}
use Rattle.dpl_deal.specs.Hands.{IsHandOf}
use Rattle.dpl_test_colours.proofs.hands.rest_of.Given as goal

abbrev pub invariant-loop : goal.invariant-loop
invariant-loop g l = (me : ℕ) → IsHandOf l.deal me l.initial.hand → IsHandOf l.deal me l.hand
