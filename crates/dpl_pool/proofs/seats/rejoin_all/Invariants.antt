use Rattle.std.proofs.Common.{◌≡◌, ◌++◌, length, map}
use Rattle.dpl_pool.specs.Seating.{Grow, histories_of, sheet_of, table_of, workers_of}
use Rattle.dpl_pool.proofs.Seating.{GrowBelow}
use Rattle.dpl_pool.proofs.seats.rejoin_all.Given as goal

abbrev pub invariant-loop-other : goal.invariant-loop-other
invariant-loop-other g l = (l.yielded ++ l.other-iterator.rest.items ≡ l.fn.others.items) × (l.at ≡ length l.yielded)
    × (map table_of l.seats.items ≡ map table_of l.fn.seats.items)
    × (map sheet_of l.seats.items ≡ map sheet_of l.fn.seats.items)
    × (map workers_of l.seats.items ≡ map workers_of l.fn.seats.items)
    × Grow (histories_of l.fn.seats.items) (histories_of l.seats.items)
    × GrowBelow l.at (histories_of l.fn.others.items) (histories_of l.seats.items)
