-- Where events lead.
use Rattle.std.specs.Prelude.{◌≡◌, ℕ, ◌==◌, not, nat_lt, List, [], ◌∷◌, ◌++◌, filter, length, Option}
use Rattle.dpl_board.specs.declared.entry.Entry.{Entry}
use Rattle.dpl_board.specs.declared.events.Event.{Event}
use Rattle.dpl_board.specs.declared.events.Event.TheVariants.{Take, Post}
use Rattle.dpl_board.specs.Sheets.{Sheet, AreWorkers, entry}
use Rattle.dpl_board.specs.Boards.{Board, Stands}

-- who takes which tile
abbrev pub takes_of : List Event → List Entry
takes_of [] = []
takes_of (Take worker tile ∷ es) = entry worker tile ∷ takes_of es
takes_of (Post worker tile ∷ es) = takes_of es

-- who posts which tile
abbrev pub posts_of : List Event → List Entry
posts_of [] = []
posts_of (Take worker tile ∷ es) = posts_of es
posts_of (Post worker tile ∷ es) = entry worker tile ∷ posts_of es

-- those whose tile no earlier one has
abbrev pub firsts : List Entry → List Entry
firsts [] = []
firsts (e ∷ es) = e ∷ filter (λ (d : Entry). not (d.tile == e.tile)) (firsts es)

-- those with a tile of the first so many
abbrev pub within : ℕ → List Entry → List Entry
within tiles entries = filter (λ (e : Entry). nat_lt e.tile tiles) entries

-- The history is the posts of the sheet's tiles, without those of a tile that was posted before, and the board stands for the sheet.
pub record HasPosts (sheet : Sheet) (entries : List Entry) (b : Board) : Type 0 where
  pub history : b.history ≡ firsts (within (length sheet) entries)
  pub stands : Stands sheet b

-- what the events lead to, from the state in which no tile is taken or posted
pub record IsCore (sheet : Sheet) (events : List Event) (taken : List (Option ℕ)) (b : Board) : Type 0 where
  pub takers : AreWorkers (length sheet) (takes_of events) taken
  pub posts : HasPosts sheet (posts_of events) b

-- what this leads to after any events that led to the old state
abbrev pub Goes : Sheet → Event → List (Option ℕ) → Board → List (Option ℕ) → Board → Type 0
Goes sheet event old b taken new = (events : List Event) → IsCore sheet events old b → IsCore sheet (events ++ event ∷ []) taken new
