use Rattle.std.proofs.Common.{◌≡◌, ◌<◌, ◌≤◌, ℕ, get_or, take, vec_len}
use Rattle.dpl_deal.specs.declared.hand.Hand.{Hand}
use Rattle.dpl_deal.specs.Hands.{deques_of, joined_all, row_of, views_of}
use Rattle.dpl_deal.proofs.closing.join_rows.Given as goal

abbrev pub invariant-loop-at : goal.invariant-loop-at
invariant-loop-at l = (vec_len l.hands ≡ vec_len l.initial.hands)
    × (views_of l.hands.items ≡ joined_all (views_of l.initial.hands.items) (take l.at l.initial.hands.items))
    × (deques_of l.hands.items ≡ deques_of l.initial.hands.items)
    × ((j : ℕ) (d : Hand) → l.at ≤ j → j < vec_len l.initial.hands → row_of (get_or l.hands.items j d) ≡ row_of (get_or l.initial.hands.items j d))
