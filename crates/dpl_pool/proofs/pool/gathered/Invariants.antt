use Rattle.std.proofs.Common.{◌≡◌, ◌++◌, length, map, vec_len, All}
use Rattle.dpl_deal.specs.Hands.{EachAt, IsDone, IsHandOf, all_taken}
use Rattle.dpl_pool.specs.Seating.{histories_of, sheet_of, table_of, workers_of}
use Rattle.dpl_pool.specs.Members.{Covers}
use Rattle.dpl_pool.proofs.pool.gathered.Given as goal

abbrev pub invariant-loop-member : goal.invariant-loop-member
invariant-loop-member g l = (l.yielded ++ l.member-iterator.rest.items ≡ l.fn.members.items) × (vec_len l.hands ≡ length l.yielded)
    × (map table_of l.seats.items ≡ map table_of l.fn.seats.items)
    × (map sheet_of l.seats.items ≡ map sheet_of l.fn.seats.items)
    × (map workers_of l.seats.items ≡ map workers_of l.fn.seats.items)
    × EachAt (IsHandOf l.floor.deal) l.hands.items × All (λ h. IsDone h) l.hands.items
    × Covers (map sheet_of l.fn.seats.items) (all_taken l.hands.items) (histories_of l.seats.items)
