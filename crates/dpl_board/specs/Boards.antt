-- What a board holds, what it stands for, and what a post does to it.
use Rattle.std.specs.Prelude.{◌≡◌, ◌≢◌, ◌<◌, ℕ, List, [], ◌∷◌, ◌++◌, length, Option, Some, None, Result, Ok, Err}
use Rattle.std.specs.List.{All, AllPairs}
use Rattle.std.specs.List.Sorted.{IsPermutation}
use Rattle.dpl_stars.specs.declared.joined.Joined.{Joined}
use Rattle.dpl_stars.specs.Sums.{Sums}
use Rattle.dpl_board.specs.declared.entry.Entry.{Entry}
use Rattle.dpl_board.specs.declared.fault.PostFault.{PostFault}
use Rattle.dpl_board.specs.declared.fault.PostFault.TheVariants.{NoMemory, Twice}
use Rattle.dpl_board.specs.declared.posts.Posts.{Posts}
use Rattle.dpl_board.specs.Sheets.{Sheet, IsSheet, AreWorkers, IsPosted, all_edges, edges_at, edges_of, poster_in}
use Rattle.dpl_board.specs.Summing.{AreSums, tiles_in, tiles_of}

-- how many tiles there are, the posts in their order, parts of the posted tiles, and for each part a summary of its edges
pub record Board : Type 0 where
  pub tiles : ℕ
  pub history : List Entry
  pub parts : List (List ℕ)
  pub sums : List Joined

abbrev pub board : ℕ → List Entry → List (List ℕ) → List Joined → Board
board tiles history parts sums = record { tiles = tiles; history = history; parts = parts; sums = sums }

-- The board stands for the sheet: it has as many tiles, each summary is that of the edges of its part, and the parts together are the posted
-- tiles, each in one.
pub record Stands (sheet : Sheet) (b : Board) : Type 0 where
  pub edges : IsSheet sheet
  pub tiles : b.tiles ≡ length sheet
  pub sums : AreSums sheet b.parts b.sums
  pub posted : IsPermutation (tiles_in b.parts) (tiles_of b.history)

-- nothing is posted: it stands for every sheet of so many tiles
pub record IsFresh (count : ℕ) (b : Board) : Type 0 where
  pub tiles : b.tiles ≡ count
  pub history : b.history ≡ []
  pub stands : (sheet : Sheet) → IsSheet sheet → length sheet ≡ count → Stands sheet b

-- the tiles of the posts are below this number, and differ
pub record ArePosts (tiles : ℕ) (history : List Entry) : Type 0 where
  pub below : All (λ (e : Entry). e.tile < tiles) history
  pub apart : AllPairs (λ (d e : Entry). d.tile ≢ e.tile) history

-- for each tile the worker that posted it
pub record ArePosters (tiles : ℕ) (posters : List (Option ℕ)) (history : List Entry) : Type 0 where
  pub workers : AreWorkers tiles history posters
  pub below : All (λ (e : Entry). e.tile < tiles) history
  pub apart : AllPairs (λ (d e : Entry). d.tile ≢ e.tile) history

abbrev pub HasPosters : Posts → Type 0
HasPosters p = ArePosters p.tiles p.posters.items p.history.items

-- One entry more. Whatever sheet the board stood for, it stands for it still, where the summary is that of the tile's edges.
pub record IsPost (old : Board) (e : Entry) (sum : Joined) (new : Board) : Type 0 where
  pub tiles : new.tiles ≡ old.tiles
  pub history : new.history ≡ old.history ++ e ∷ []
  pub stands : (sheet : Sheet) → Stands sheet old → Sums (edges_at sheet e.tile) sum → Stands sheet new

-- A tile is posted where it isn't; where it is, that is answered with its poster. A post that isn't made changes nothing.
abbrev pub PostLeaves : Board → Entry → Joined → Result (Unit {0}) PostFault → Board → Type 0
PostLeaves old e sum (Ok _) new = (poster_in e.tile old.history ≡ None) × IsPost old e sum new
PostLeaves old e sum (Err (Twice by)) new = (poster_in e.tile old.history ≡ Some by) × (new ≡ old)
PostLeaves old e sum (Err NoMemory) new = (poster_in e.tile old.history ≡ None) × (new ≡ old)

-- the summary of the edges of the posted tiles together, whatever sheet the board stands for
abbrev pub SumsPosted : Board → Joined → Type 0
SumsPosted b j = (sheet : Sheet) → Stands sheet b → Sums (edges_of sheet b.history) j

abbrev pub AreAllPosted : Board → Type 0
AreAllPosted b = (t : ℕ) → t < b.tiles → IsPosted t b.history

pub record IsFirstMissing (tiles : ℕ) (history : List Entry) (t : ℕ) : Type 0 where
  pub below : t < tiles
  pub missing : poster_in t history ≡ None
  pub first : (s : ℕ) → s < t → IsPosted s history

-- where all tiles are posted, the summary is that of the edges of all tiles together
abbrev pub AllPostedSumUp : Type 0
AllPostedSumUp = (sheet : Sheet) (b : Board) (j : Joined) → Stands sheet b → AreAllPosted b → Sums (edges_of sheet b.history) j → Sums (all_edges sheet) j
