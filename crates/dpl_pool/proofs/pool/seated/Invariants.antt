use Rattle.std.proofs.Common.{◌≡◌, ◌++◌, length, map, vec_len}
use Rattle.dpl_deal.specs.declared.deal.Deal.{Deal}
use Rattle.dpl_deal.specs.Hands.{EachAt, IsHandOf}
use Rattle.dpl_turn.specs.Seats.{knows}
use Rattle.dpl_pool.specs.Seating.{board_table, sheet_of, table_of}
use Rattle.dpl_pool.specs.Members.{IsMember}
use Rattle.dpl_pool.proofs.pool.seated.Given as goal

abbrev pub invariant-loop-hand : goal.invariant-loop-hand
invariant-loop-hand g l = (l.yielded ++ l.hand-iterator.rest.items ≡ l.fn.hands.items) × (l.number ≡ length l.yielded) × (vec_len l.members ≡ length l.yielded)
    × (map table_of l.seats.items ≡ map table_of l.fn.seats.items) × (map knows l.seats.items ≡ map knows l.fn.seats.items)
    × ((deal : Deal) → EachAt (IsHandOf deal) l.fn.hands.items
    → EachAt (IsMember (map board_table l.boards.items) (map sheet_of l.fn.seats.items) deal) l.members.items)
