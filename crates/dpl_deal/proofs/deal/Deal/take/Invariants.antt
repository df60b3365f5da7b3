use Rattle.std.proofs.Common.{◌≡◌, None}
use Rattle.dpl_deal.specs.Grips.{EndedBelow, Tried}
use Rattle.dpl_deal.proofs.deal.Deal.take.Given as goal

abbrev pub invariant-loop-at : goal.invariant-loop-at
invariant-loop-at g l = (l.hand.own ≡ l.initial.hand.own) × Tried l.initial.hand.grips.items None l.hand.grips.items
    × EndedBelow l.at l.hand.grips.items × (l.hand.marked ≡ l.initial.hand.marked)
