use Rattle.std.proofs.Common.{◌≡◌, map, take, All}
use Rattle.dpl_turn.specs.declared.seat.Seat.{Seat}
use Rattle.dpl_pool.specs.Seating.{board_table, sheet_of, table_of, workers_of}
use Rattle.dpl_pool.proofs.seats.open_all.Given as goal

abbrev pub invariant-loop-job : goal.invariant-loop-job
invariant-loop-job g l = (map table_of l.seats.items ≡ map board_table l.boards.items)
    × (map sheet_of l.seats.items ≡ take l.job-index (map g.J.Job.sheet l.jobs))
    × All (λ (s : Seat). workers_of s ≡ l.workers) l.seats.items
