use Rattle.std.proofs.Common.{◌≡◌, ◌<◌, ℕ, Bool, true, List, get_or, vec_len}
use Rattle.dpl_deal.specs.declared.grip.Grip.{Grip}
use Rattle.dpl_deal.specs.Hands.{EachAt, IsArmed, IsOut, deques_of, marks_of, rows_of, views_of}
use Rattle.dpl_deal.proofs.dealing.arm_all.Given as goal

abbrev pub invariant-loop-me : goal.invariant-loop-me
invariant-loop-me l = (vec_len l.hands ≡ vec_len l.initial.hands)
    × EachAt (IsOut l.me l.tiles (vec_len l.initial.hands)) (views_of l.hands.items)
    × (deques_of l.hands.items ≡ deques_of l.initial.hands.items)
    × ((j : ℕ) (d : List Grip) → j < l.me → IsArmed (deques_of l.initial.hands.items) l.tiles (get_or (rows_of l.hands.items) j d))
    × ((j : ℕ) (d : Bool) → j < l.me → get_or (marks_of l.hands.items) j d ≡ true)
