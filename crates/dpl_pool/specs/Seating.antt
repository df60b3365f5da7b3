-- Seats at the boards of many jobs, one at each.
use Rattle.std.specs.Prelude.{◌≡◌, ℕ, List, [], length, map, slice_index_or}
use Rattle.atomic_table.specs.Seated.{TableId}
use Rattle.dpl_board.specs.declared.entry.Entry.{Entry}
use Rattle.dpl_board.specs.Boards.{AreAllPosted, Board, Stands}
use Rattle.dpl_board.specs.Cores.{IsCore}
use Rattle.dpl_board.specs.Sheets.{IsPosted, Sheet}
use Rattle.dpl_turn.specs.declared.board.Board.{Board as SharedBoard}
use Rattle.dpl_turn.specs.declared.seat.Seat.{Seat}
use Rattle.dpl_turn.specs.declared.view.SeatView.{SeatView}
use Rattle.dpl_turn.specs.Replay.{events_of, workers_to}
use Rattle.dpl_turn.specs.Rule.{IsProper, StartsWith, newcomer}
use Rattle.dpl_turn.specs.Seats.{knows}

-- the table of a board
abbrev pub board_table : {J : Type 0} → SharedBoard J → TableId
board_table b = b.table.shared.table_id

-- the table of the board that the seat is at
abbrev pub table_of : Seat → TableId
table_of seat = seat.place.table_id

abbrev pub sheet_of : Seat → Sheet
sheet_of seat = (knows seat).sheet

abbrev pub workers_of : Seat → ℕ
workers_of seat = (knows seat).workers

-- what each seat has seen
abbrev pub histories_of : List Seat → List (List Entry)
histories_of seats = map (λ (s : Seat). (knows s).known) seats

-- who has seen as much, and posted nothing
abbrev pub as_newcomer : SeatView → SeatView
as_newcomer v = newcomer v.sheet v.workers v.known

-- whatever was posted in one of these histories is posted in that one of the later ones
abbrev pub Grow : List (List Entry) → List (List Entry) → Type 0
Grow old new = (j k : ℕ) → IsPosted k (slice_index_or old j []) → IsPosted k (slice_index_or new j [])

-- these are seats at the boards with these tables, of jobs with these sheets
pub record AreSeats (tables : List TableId) (sheets : List Sheet) (seats : List Seat) : Type 0 where
  pub at : map table_of seats ≡ tables
  pub of : map sheet_of seats ≡ sheets

-- a board's state at its end, by what a seat knew
pub record IsClosed (v : SeatView) (s : Board) : Type 0 where
  pub seen : StartsWith s.history v.known
  pub stands : Stands v.sheet s
  pub proper : IsProper v.sheet v.workers s.history

-- What a board is once its job's tiles are worked out by so many workers: it stands for the sheet, each tile is posted once, by one of the
-- workers, and it is what the takes and posts of its history lead to.
pub record IsWorkedOut (workers : ℕ) (sheet : Sheet) (s : Board) : Type 0 where
  pub stands : Stands sheet s
  pub posted : AreAllPosted s
  pub proper : IsProper sheet workers s.history
  pub core : IsCore sheet (events_of s.history) (workers_to (length sheet) s.history) s
