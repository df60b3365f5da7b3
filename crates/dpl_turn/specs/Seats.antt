-- Which board a seat is of.
use Rattle.std.specs.Prelude.{◌≡◌}
use Rattle.atomic_table.specs.Seated.{TableId}
use Rattle.dpl_turn.specs.declared.seat.Seat.{Seat}
use Rattle.dpl_turn.specs.declared.view.SeatView.{SeatView}

-- it is a seat of the board with this table
abbrev pub IsSeatOf : TableId → Seat → Type 0
IsSeatOf table seat = seat.place.table_id ≡ table

-- what the seat knows
abbrev pub knows : Seat → SeatView
knows seat = seat.place.me.0
