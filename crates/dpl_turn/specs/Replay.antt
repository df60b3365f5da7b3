-- The events of a history, and who takes which tile.
use Rattle.std.specs.Prelude.{ℕ, zero, suc, List, [], ◌∷◌, ◌++◌, Option}
use Rattle.dpl_board.specs.declared.entry.Entry.{Entry}
use Rattle.dpl_board.specs.declared.events.Event.{Event}
use Rattle.dpl_board.specs.declared.events.Event.TheVariants.{Take, Post}
use Rattle.dpl_board.specs.Sheets.{poster_in}

-- each entry's worker takes its tile and posts it, in order
abbrev pub events_of : List Entry → List Event
events_of [] = []
events_of (e ∷ es) = Take e.worker e.tile ∷ Post e.worker e.tile ∷ events_of es

-- for each tile below n the worker that posted it
abbrev pub workers_to : ℕ → List Entry → List (Option ℕ)
workers_to zero history = []
workers_to (suc n) history = workers_to n history ++ poster_in n history ∷ []
