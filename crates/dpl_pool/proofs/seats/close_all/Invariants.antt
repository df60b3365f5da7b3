use Rattle.std.proofs.Common.{◌≡◌, ◌++◌, List, map}
use Rattle.std.specs.List.{AllZip}
use Rattle.dpl_turn.specs.declared.seat.Seat.{Seat}
use Rattle.dpl_turn.specs.Seats.{knows}
use Rattle.dpl_pool.specs.Seating.{IsClosed, board_table, table_of}
use Rattle.dpl_pool.proofs.seats.close_all.Given as goal

abbrev pub invariant-loop-board : goal.invariant-loop-board
invariant-loop-board g l = (done : List Seat) × (done ++ l.waiting.rest.items ≡ l.fn.seats.items)
    × (map table_of l.waiting.rest.items ≡ map board_table l.board-iterator.rest.items)
    × AllZip IsClosed (map knows done) l.states.items
