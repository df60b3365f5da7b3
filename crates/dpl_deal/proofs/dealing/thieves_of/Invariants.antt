use Rattle.std.proofs.Common.{◌≡◌, map, take}
use Rattle.dpl_deal.specs.Grips.{thief_deque}
use Rattle.dpl_deal.specs.Hands.{deques_of}
use Rattle.dpl_deal.proofs.dealing.thieves_of.Given as goal

abbrev pub invariant-loop-at : goal.invariant-loop-at
invariant-loop-at l = map thief_deque l.thieves.items ≡ take l.at (deques_of l.initial.hands.items)
