use Rattle.std.proofs.Common.{◌≡◌, map, take, vec_len}
use Rattle.dpl_deal.specs.Rule.{cut_off}
use Rattle.dpl_deal.specs.Grips.{grip_deque, grip_view}
use Rattle.dpl_deal.specs.Hands.{deques_of, gripped, marks_of, rows_of, views_of}
use Rattle.dpl_deal.proofs.dealing.grip_all.Given as goal

abbrev pub invariant-loop-at : goal.invariant-loop-at
invariant-loop-at l = (vec_len l.hands ≡ vec_len l.initial.hands)
    × (views_of l.hands.items ≡ gripped l.at (views_of l.initial.hands.items))
    × (deques_of l.hands.items ≡ deques_of l.initial.hands.items)
    × (map grip_deque l.grips.items ≡ take l.at (deques_of l.initial.hands.items))
    × (map grip_view l.grips.items ≡ take l.at (map cut_off (views_of l.initial.hands.items)))
    × (rows_of l.hands.items ≡ rows_of l.initial.hands.items)
    × (marks_of l.hands.items ≡ marks_of l.initial.hands.items)
