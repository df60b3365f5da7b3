use Rattle.std.proofs.Common.{◌≡◌, ◌++◌, length}
use Rattle.dpl_deal.specs.Grips.{joined}
use Rattle.dpl_deal.specs.Hands.{deques_of, rows_of, views_of}
use Rattle.dpl_deal.proofs.closing.join_row.Given as goal

abbrev pub invariant-loop-grip : goal.invariant-loop-grip
invariant-loop-grip l = (l.yielded ++ l.grip-iterator.rest.items ≡ l.fn.row.items) × (l.at ≡ length l.yielded)
    × (views_of l.hands.items ≡ joined (views_of l.initial.hands.items) l.yielded)
    × (deques_of l.hands.items ≡ deques_of l.initial.hands.items)
    × (rows_of l.hands.items ≡ rows_of l.initial.hands.items)
