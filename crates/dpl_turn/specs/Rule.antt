-- The rule of the board.
use Rattle.std.specs.Prelude.{◌≡◌, ◌≢◌, ◌⊎◌, ◌+◌, ◌<◌, ◌≤◌, ◌==◌, ◌/◌, ◌%◌, ◌^◌, ℕ, true, false, List, [], ◌∷◌, ◌++◌, length, slice_get}
use Rattle.std.specs.Prelude.{Option, Some, None, if◌then◌else◌, nat_lt, MatchBool, Result, Ok, Err}
use Rattle.std.specs.List.{All, AllPairs}
use Rattle.dpl_board.specs.declared.fault.PostFault.{PostFault}
use Rattle.dpl_board.specs.declared.fault.PostFault.TheVariants.{NoMemory, Twice}
use Rattle.dpl_board.specs.declared.entry.Entry.{Entry}
use Rattle.dpl_board.specs.Sheets.{Sheet, entry, poster_in}
use Rattle.dpl_board.specs.Boards.{Board, Stands}
use mathlib.Core.Option.{Option as Maybe, some, none}
use lib.ListN.{get_elem?}
use Rattle.atomic_table.specs.Table.{Me, State, Step}
use Rattle.dpl_turn.specs.declared.view.SeatView.{SeatView}

-- the state, where the slot has it
abbrev pub Slot : Type 0
Slot = Option Board

-- the entries' tiles differ and are the sheet's, and their workers are below this number
pub record IsProper (sheet : Sheet) (workers : ℕ) (history : List Entry) : Type 0 where
  pub apart : AllPairs (λ (d e : Entry). d.tile ≢ e.tile) history
  pub below : All (λ (e : Entry). e.tile < length sheet) history
  pub signed : All (λ (e : Entry). e.worker < workers) history

-- who has seen these entries, and nothing else
abbrev pub newcomer : Sheet → ℕ → List Entry → SeatView
newcomer sheet workers known = record { sheet = sheet; workers = workers; spent = false; own = []; known = known; older = []; holds = false; found = []; named = None }

-- a seat between two calls: it has no turn, and no slot
abbrev pub Idle : Me Slot SeatView → Type 0
Idle me = (me.0.holds ≡ false) × (me.1 ≡ []) × (me.0.named ≡ None) × (me.0.spent ≡ false)

abbrev pub StartsWith : List Entry → List Entry → Type 0
StartsWith xs prefix = (rest : List Entry) × (xs ≡ prefix ++ rest)

-- how many posts of a seat stand at a place
abbrev pub posts_at : ℕ → List (ℕ × Entry) → ℕ
posts_at p [] = 0
posts_at p (x ∷ xs) = (if x.0 == p then 1 else 0) + posts_at p xs

-- and of all seats
abbrev pub all_posts_at : ℕ → List SeatView → ℕ
all_posts_at p [] = 0
all_posts_at p (v ∷ vs) = posts_at p v.own + all_posts_at p vs

-- each post of a seat is the entry at its place
abbrev pub AreEntries : List Entry → List (ℕ × Entry) → Type 0
AreEntries history [] = Unit {0}
AreEntries history (x ∷ xs) = (slice_get history x.0 ≡ Some x.1) × AreEntries history xs

-- by rising places
abbrev pub Rise : List (ℕ × Entry) → Type 0
Rise own = AllPairs (λ (a b : ℕ × Entry). a.0 < b.0) own

-- each of these begins the history
abbrev pub AllPrefixes : List Entry → List (List Entry) → Type 0
AllPrefixes history [] = Unit {0}
AllPrefixes history (x ∷ xs) = StartsWith history x × AllPrefixes history xs

-- an entry that may be the next one: of a tile of the sheet that isn't in the history, and of a worker below this number
pub record MayFollow (sheet : Sheet) (workers : ℕ) (history : List Entry) (e : Entry) : Type 0 where
  pub fresh : poster_in e.tile history ≡ None
  pub below : e.tile < length sheet
  pub signed : e.worker < workers

-- what was named, if anything, may follow
abbrev pub IsNamed : Sheet → ℕ → List Entry → Option Entry → Type 0
IsNamed sheet workers history None = Unit {0}
IsNamed sheet workers history (Some e) = MayFollow sheet workers history e

-- what holds of one view
pub record Fits (history : List Entry) (v : SeatView) : Type 0 where
  pub known : StartsWith history v.known
  pub own : AreEntries history v.own
  pub rising : Rise v.own
  pub older : AllPrefixes history v.older

-- nobody has the turn, and the slot has a state with the history, which stands for the sheet
pub record IsFree (sheet : Sheet) (history : List Entry) (homes : List (Maybe Slot)) (views : List SeatView) : Type 0 where
  pub state : Board
  pub home : homes ≡ some (Some state) ∷ []
  pub same : state.history ≡ history
  pub stands : Stands sheet state
  pub nobody : (i : ℕ) (v : SeatView) → get_elem? views i ≡ some v → v.holds ≡ false

-- one seat has it, and found the history, what it named may follow, and the slot is out
pub record IsHeld (sheet : Sheet) (workers : ℕ) (history : List Entry) (homes : List (Maybe Slot)) (views : List SeatView) : Type 0 where
  pub out : homes ≡ none ∷ []
  pub holder : ℕ
  pub only : (i : ℕ) (v : SeatView) → get_elem? views i ≡ some v → v.holds ≡ true → (i ≡ holder) × (v.found ≡ history) × IsNamed sheet workers history v.named
  pub one : (v : SeatView) × (get_elem? views holder ≡ some v) × (v.holds ≡ true)

abbrev pub TurnIs : Sheet → ℕ → ℕ → List Entry → List (Maybe Slot) → List SeatView → Type 0
TurnIs sheet workers turn history homes views = ((turn ≡ 0) × IsFree sheet history homes views) ⊎ ((turn ≡ 1) × IsHeld sheet workers history homes views)

-- the views that aren't spent have one sheet, and one number of workers
abbrev pub HaveOne : Sheet → ℕ → List SeatView → Type 0
HaveOne sheet workers views = (i : ℕ) (v : SeatView) → get_elem? views i ≡ some v → v.spent ≡ false → (v.sheet ≡ sheet) × (v.workers ≡ workers)

pub record IsKept (sheet : Sheet) (workers : ℕ) (s : State Slot SeatView) : Type 0 where
  pub history : List Entry
  pub turn : ℕ
  pub tile : ℕ
  pub words : s.words ≡ turn ∷ tile ∷ []
  pub fits : (i : ℕ) (v : SeatView) → get_elem? s.views i ≡ some v → Fits history v
  pub within : (p : ℕ) → p < length history → all_posts_at p s.views ≡ 1
  pub beyond : (p : ℕ) → length history ≤ p → all_posts_at p s.views ≡ 0
  pub proper : IsProper sheet workers history
  pub one_sheet : HaveOne sheet workers s.views
  pub now : TurnIs sheet workers turn history s.homes s.views

-- the seat has the turn, and the history that it found
abbrev pub HasTurn : SeatView → Me Slot SeatView → Type 0
HasTurn v m = (state : Board) × (m ≡ (record v { holds = true; found = state.history }, (0, Some state) ∷ [])) × StartsWith state.history v.known × AreEntries state.history v.own
    × Stands v.sheet state × IsProper v.sheet v.workers state.history × Rise v.own

-- what a try tells
abbrev pub TriesTurn : Step Slot → Me Slot SeatView → ℕ → Me Slot SeatView → Type 0
TriesTurn step before n after = MatchBool (n == 0) (HasTurn before.0 after) (after ≡ before)

-- the entry that the tile word has
abbrev pub entry_in : ℕ → Entry
entry_in n = entry (n / 2 ^ 32) (n % 2 ^ 32)

-- what naming an entry tells
abbrev pub NamesEntry : Step Slot → Me Slot SeatView → ℕ → Me Slot SeatView → Type 0
NamesEntry step before n after = after ≡ (record before.0 { named = Some (entry_in step.first) }, before.1)

-- the entries that a seat's view has named
abbrev pub named_list : Option Entry → List Entry
named_list None = []
named_list (Some e) = e ∷ []

-- the seat's post of it, at the next place
abbrev pub named_posts : ℕ → Option Entry → List (ℕ × Entry)
named_posts n None = []
named_posts n (Some e) = (n, e) ∷ []

-- the seat once it has given the turn back: the history that it found, and what it named
abbrev pub after_give : SeatView → SeatView
after_give v = record {
  sheet = v.sheet;
  workers = v.workers;
  spent = v.spent;
  own = v.own ++ named_posts (length v.found) v.named;
  known = v.found ++ named_list v.named;
  older = v.older;
  holds = false;
  found = [];
  named = None;
}

-- what giving the turn back tells
abbrev pub GivesTurn : Step Slot → Me Slot SeatView → ℕ → Me Slot SeatView → Type 0
GivesTurn step before n after = after ≡ (after_give before.0, [])

-- the seat has the turn, and holds the slot with this history
abbrev pub Holding : SeatView → List Entry → Me Slot SeatView → Type 0
Holding v history me = (state : Board) × (me ≡ (v, (0, Some state) ∷ [])) × (state.history ≡ history) × Stands v.sheet state × IsProper v.sheet v.workers state.history

-- the seat has the turn, with this state out of the slot, whose history is the one that was found
pub record IsOut (state : Board) (me : Me Slot SeatView) : Type 0 where
  pub holds : me.0.holds ≡ true
  pub fresh : me.0.spent ≡ false
  pub idle : me.0.named ≡ None
  pub found : me.0.found ≡ state.history
  pub slot : me.1 ≡ (0, None) ∷ []
  pub known : StartsWith state.history me.0.known
  pub stands : Stands me.0.sheet state
  pub proper : IsProper me.0.sheet me.0.workers state.history

-- what a turn without a post leaves of a seat: what is found later begins with what was found
pub record GoesOn (v w : SeatView) : Type 0 where
  pub sheet : w.sheet ≡ v.sheet
  pub workers : w.workers ≡ v.workers
  pub own : w.own ≡ v.own
  pub found : StartsWith w.found v.found

-- What a post leaves of a seat. The history that the call found begins with what the seat had seen. What is known is that history and the
-- entry, if one was posted, which the seat's own posts gain at its place
pub record Posted (v : SeatView) (posted : Option Entry) (found : List Entry) (w : SeatView) : Type 0 where
  pub begins : StartsWith found v.known
  pub sheet : w.sheet ≡ v.sheet
  pub workers : w.workers ≡ v.workers
  pub known : w.known ≡ found ++ named_list posted
  pub own : w.own ≡ v.own ++ named_posts (length found) posted

-- the answer to a post, by the history that the call found
abbrev pub Answers : SeatView → ℕ → ℕ → Result (Unit {0}) PostFault → SeatView → Type 0
Answers v worker tile (Ok _) w = (found : List Entry) × (poster_in tile found ≡ None) × Posted v (Some (entry worker tile)) found w
Answers v worker tile (Err (Twice by)) w = (found : List Entry) × (poster_in tile found ≡ Some by) × Posted v None found w
Answers v worker tile (Err NoMemory) w = (found : List Entry) × (poster_in tile found ≡ None) × Posted v None found w

-- the longer of two
abbrev pub longer : List Entry → List Entry → List Entry
longer xs ys = if nat_lt (length xs) (length ys) then ys else xs

-- a post among others, by its place
abbrev pub placed : ℕ × Entry → List (ℕ × Entry) → List (ℕ × Entry)
placed x [] = x ∷ []
placed x (y ∷ ys) = if nat_lt x.0 y.0 then x ∷ y ∷ ys else y ∷ placed x ys

-- the posts of two seats, by place
abbrev pub merged : List (ℕ × Entry) → List (ℕ × Entry) → List (ℕ × Entry)
merged [] ys = ys
merged (x ∷ xs) ys = placed x (merged xs ys)

-- two seats' knowledge in one
abbrev pub both_views : SeatView → SeatView → SeatView
both_views v w = record v { own = merged v.own w.own; known = longer v.known w.known; older = v.known ∷ w.known ∷ v.older ++ w.older }

-- a seat that is spent
abbrev pub spent_view : SeatView
spent_view = record { sheet = []; workers = 0; spent = true; own = []; known = []; older = []; holds = false; found = []; named = None }

-- what the seats that met learn: what either had seen begins what is known now
abbrev pub Meets : Step Slot → Me Slot SeatView → ℕ → Me Slot SeatView → Type 0
Meets step before n after = (after ≡ (record before.0 { older = [] }, before.1))
    × ((history : List Entry) × StartsWith history before.0.known × AllPrefixes history before.0.older)
