-- What holds of a worker between two tiles.
use Rattle.std.specs.Prelude.{◌≡◌, ◌+◌, ◌<◌, ℕ, List, [], ◌∷◌, false, All, slice_index_or}
use Rattle.atomic_table.specs.Seated.{TableId}
use Rattle.dpl_board.specs.declared.entry.Entry.{Entry}
use Rattle.dpl_board.specs.declared.fault.PostFault.{PostFault}
use Rattle.dpl_board.specs.declared.fault.PostFault.TheVariants.{Twice}
use Rattle.dpl_board.specs.Sheets.{IsPosted, Sheet}
use Rattle.dpl_deal.specs.declared.deal.Deal.{Deal}
use Rattle.dpl_deal.specs.Rule.{times}
use Rattle.dpl_deal.specs.Hands.{IsDone, IsHandOf, taken}
use Rattle.dpl_turn.specs.declared.seat.Seat.{Seat}
use Rattle.dpl_turn.specs.declared.view.SeatView.{SeatView}
use Rattle.dpl_pool.specs.declared.member.Member.{Member}
use Rattle.dpl_pool.specs.Numbering.{IsPlace}
use Rattle.dpl_pool.specs.Seating.{AreSeats, histories_of, workers_of}

-- each tile with one of these numbers is posted in the history of its sheet
abbrev pub Covers : List Sheet → List ℕ → List (List Entry) → Type 0
Covers sheets numbers histories =
    (number j k : ℕ) → 0 < times number numbers → IsPlace sheets number j k → IsPosted k (slice_index_or histories j [])

-- It is the worker of this number, with a seat at each of the boards with these tables, of jobs with these sheets, and with the hand of that
-- number. It has not run out of memory, and its seats have seen each tile that the hand took
pub record IsMember (tables : List TableId) (sheets : List Sheet) (deal : Deal) (i : ℕ) (m : Member) : Type 0 where
  pub seats : AreSeats tables sheets m.seats.items
  pub number : m.number ≡ i
  pub below : All (λ (s : Seat). m.number < workers_of s) m.seats.items
  pub hand : IsHandOf deal i m.hand
  pub well : m.out_of_memory ≡ false
  pub covers : Covers sheets (taken m.hand) (histories_of m.seats.items)

-- it ran out of memory, or its hand has found each deque empty
abbrev pub Leaves : List TableId → List Sheet → Deal → ℕ → Member → Type 0
Leaves tables sheets deal i m = m.out_of_memory ≡ false → IsMember tables sheets deal i m × IsDone m.hand

-- what a post leaves of what a seat knows: its sheet, its number of workers, and each tile that is posted
pub record Keeps (v w : SeatView) : Type 0 where
  pub sheet : w.sheet ≡ v.sheet
  pub workers : w.workers ≡ v.workers
  pub seen : (x : ℕ) → IsPosted x v.known → IsPosted x w.known

-- one tile more
abbrev pub TookOne : List ℕ → List ℕ → Type 0
TookOne old new = (t : ℕ) × ((x : ℕ) → times x new ≡ times x old + times x (t ∷ []))

abbrev pub IsTwice : PostFault → Type 0
IsTwice f = (by : ℕ) × (f ≡ Twice by)
