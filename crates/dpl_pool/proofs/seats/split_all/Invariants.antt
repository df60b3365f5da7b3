use Rattle.std.proofs.Common.{◌≡◌, map, take, vec_len}
use Rattle.dpl_turn.specs.Seats.{knows}
use Rattle.dpl_pool.specs.Seating.{as_newcomer, table_of}
use Rattle.dpl_pool.proofs.seats.split_all.Given as goal

abbrev pub invariant-loop-at : goal.invariant-loop-at
invariant-loop-at g l = (vec_len l.seats ≡ vec_len l.initial.seats) × (map table_of l.seats.items ≡ map table_of l.initial.seats.items)
    × (map knows l.seats.items ≡ map knows l.initial.seats.items)
    × (map table_of l.others.items ≡ take l.at (map table_of l.initial.seats.items))
    × (map knows l.others.items ≡ take l.at (map as_newcomer (map knows l.initial.seats.items)))
