-- Blocks of tiles, and boards that keep a summary for each of some blocks.
use Rattle.std.specs.Prelude.{◌≡◌, ◌≢◌, ◌⊎◌, ◌+◌, ◌-◌, ◌*◌, ◌^◌, ◌<◌, ◌≤◌, ℕ, List, [], ◌∷◌, ◌++◌, length, map, slice_index_or, vec_capacity, Option, None, Some}
use Rattle.std.specs.List.{All, AllPairs, Contains, range_with_len}
use Rattle.std.specs.List.Sorted.{IsPermutation}
use Rattle.dpl_stars.specs.declared.joined.Joined.{Joined}
use Rattle.dpl_stars.specs.declared.joined.Joined.TheVariants.{Odd}
use Rattle.dpl_stars.specs.Sums.{Sums}
use Rattle.dpl_board.specs.declared.entry.Entry.{Entry}
use Rattle.dpl_board.specs.declared.posts.Posts.{Posts}
use Rattle.dpl_board.specs.declared.kept.Kept.{Kept}
use Rattle.dpl_board.specs.declared.tournament.Tournament.{Tournament}
use Rattle.dpl_board.specs.Sheets.{Sheet}
use Rattle.dpl_board.specs.Summing.{edges_in, tiles_in, tiles_of}
use Rattle.dpl_board.specs.Boards.{Board, HasPosters, Stands}
use Rattle.dpl_board.specs.Starts.{AreAligned, blocks_of}
use Rattle.dpl_board.specs.Tournaments.{IsAtMost, IsTournament, leaf_in}

-- block (k, i) has 2^k tiles, from i * 2^k on
abbrev pub first_in : ℕ × ℕ → ℕ
first_in b = b.1 * 2 ^ b.0

abbrev pub end_of : ℕ × ℕ → ℕ
end_of b = first_in b + 2 ^ b.0

abbrev pub tiles_at : ℕ × ℕ → List ℕ
tiles_at b = range_with_len (first_in b) (2 ^ b.0)

-- by first tile, none over another
abbrev pub AreApart : List (ℕ × ℕ) → Type 0
AreApart blocks = AllPairs (λ (b c : ℕ × ℕ). end_of b ≤ first_in c) blocks

-- blocks of tiles whose numbers have 32 bits, by first tile, none over another
pub record AreBlocks (blocks : List (ℕ × ℕ)) : Type 0 where
  pub apart : AreApart blocks
  pub small : All (λ (b : ℕ × ℕ). end_of b < 2 ^ 32) blocks

-- the tiles of the parts are just the posted ones, each in one
abbrev pub ArePostedTiles : List (List ℕ) → List Entry → Type 0
ArePostedTiles parts history = IsPermutation (tiles_in parts) (tiles_of history)

-- both halves of the block are there
pub record IsHalved (blocks : List (ℕ × ℕ)) (block : ℕ × ℕ) : Type 0 where
  pub half : ℕ
  pub size : block.0 ≡ half + 1
  pub left : Contains blocks (half, 2 * block.1)
  pub right : Contains blocks (half, 2 * block.1 + 1)

-- where the second half of a block begins
abbrev pub middle_in : ℕ × ℕ → ℕ
middle_in b = (2 * b.1 + 1) * 2 ^ (b.0 - 1)

-- A leaf has the block whose second half begins at its tile, exactly where both halves of it are there.
pub record AreReady (blocks : List (ℕ × ℕ)) (t : Tournament) : Type 0 where
  pub tree : IsTournament t
  pub sound : (leaf : ℕ) (block : ℕ × ℕ) → leaf < t.leaves → leaf_in t leaf ≡ Some block → (leaf ≡ middle_in block) × IsHalved blocks block
  pub each : (block : ℕ × ℕ) → IsHalved blocks block → (middle_in block < t.leaves) × (leaf_in t (middle_in block) ≡ Some block)

-- the summaries of these blocks, each from where its block begins
abbrev pub sums_at : List Joined → List (ℕ × ℕ) → List Joined
sums_at sums blocks = map (λ (b : ℕ × ℕ). slice_index_or sums (first_in b) Odd) blocks

-- What a board keeps: the tiles of the blocks are just the posted ones, each in one.
pub record AreKept (posts : Posts) (kept : Kept) : Type 0 where
  pub posters : HasPosters posts
  pub aligned : AreAligned kept.starts.items
  pub blocks : AreBlocks (blocks_of kept.starts.items)
  pub within : All (λ (b : ℕ × ℕ). end_of b ≤ posts.tiles) (blocks_of kept.starts.items)
  pub starts : length kept.starts.items ≡ posts.tiles
  pub sums : length kept.sums.items ≡ posts.tiles
  pub leaves : kept.ready.leaves ≡ posts.tiles
  pub ready : AreReady (blocks_of kept.starts.items) kept.ready
  pub posted : ArePostedTiles (map tiles_at (blocks_of kept.starts.items)) posts.history.items
  pub room : posts.tiles ≤ vec_capacity kept.list

-- the board keeps this summary for the part with these tiles
abbrev pub Keeps : Board → List ℕ → Joined → Type 0
Keeps b tiles j = (n : ℕ) × (n < length b.parts) × ((d : List ℕ) (e : Joined) → (slice_index_or b.parts n d ≡ tiles) × (slice_index_or b.sums n e ≡ j))

-- both halves of the block are parts of the board
pub record IsReady (b : Board) (block : ℕ × ℕ) : Type 0 where
  pub half : ℕ
  pub size : block.0 ≡ half + 1
  pub left : Contains b.parts (tiles_at (half, 2 * block.1))
  pub right : Contains b.parts (tiles_at (half, 2 * block.1 + 1))

abbrev pub IsLeastReady : Board → ℕ × ℕ → Type 0
IsLeastReady b block = IsReady b block × ((other : ℕ × ℕ) → IsReady b other → IsAtMost block other)

-- the summaries that are kept for the two halves
abbrev pub KeepsHalves : Board → ℕ × ℕ → Joined × Joined → Type 0
KeepsHalves b block sums = (half : ℕ) × (block.0 ≡ half + 1) × Keeps b (tiles_at (half, 2 * block.1)) sums.0 × Keeps b (tiles_at (half, 2 * block.1 + 1)) sums.1

-- one part more, with its summary
pub record HasAdded (old : Board) (tiles : List ℕ) (sum : Joined) (new : Board) : Type 0 where
  pub before : List (List ℕ)
  pub after : List (List ℕ)
  pub parts : (old.parts ≡ before ++ after) × (new.parts ≡ before ++ tiles ∷ after)
  pub first : List Joined
  pub last : List Joined
  pub sums : (old.sums ≡ first ++ last) × (new.sums ≡ first ++ sum ∷ last)
  pub same : length first ≡ length before

-- the block in place of its halves, which stood side by side
pub record HasFolded (old : Board) (block : ℕ × ℕ) (sum : Joined) (new : Board) : Type 0 where
  pub half : ℕ
  pub size : block.0 ≡ half + 1
  pub before : List (List ℕ)
  pub after : List (List ℕ)
  pub parts : (old.parts ≡ before ++ tiles_at (half, 2 * block.1) ∷ tiles_at (half, 2 * block.1 + 1) ∷ after) × (new.parts ≡ before ++ tiles_at block ∷ after)
  pub first : List Joined
  pub last : List Joined
  pub halves : Joined × Joined
  pub sums : (old.sums ≡ first ++ halves.0 ∷ halves.1 ∷ last) × (new.sums ≡ first ++ sum ∷ last)
  pub same : length first ≡ length before

-- The block in place of its halves. Whatever sheet the board stood for, it stands for it still, where the summary is that of the block's edges.
pub record IsFold (old : Board) (block : ℕ × ℕ) (sum : Joined) (new : Board) : Type 0 where
  pub tiles : new.tiles ≡ old.tiles
  pub history : new.history ≡ old.history
  pub blocks : HasFolded old block sum new
  pub stands : (sheet : Sheet) → Stands sheet old → Sums (edges_in sheet (tiles_at block)) sum → Stands sheet new

-- The same tiles and history, with one summary. Whatever sheet the board stood for, it stands for it still.
pub record IsWhole (old new : Board) : Type 0 where
  pub tiles : new.tiles ≡ old.tiles
  pub history : new.history ≡ old.history
  pub one : new.parts ≡ tiles_of old.history ∷ []
  pub stands : (sheet : Sheet) → Stands sheet old → Stands sheet new

-- a half of the block begins at the tile
abbrev pub IsHalfAt : ℕ → ℕ × ℕ → Type 0
IsHalfAt tile block = (tile ≡ first_in block) ⊎ (tile ≡ middle_in block)

-- the block of which a half begins at the tile, if both its halves are there
abbrev pub IsWholeAt : List (ℕ × ℕ) → ℕ → Option (ℕ × ℕ) → Type 0
IsWholeAt blocks tile None = (block : ℕ × ℕ) → IsHalved blocks block → IsHalfAt tile block → ⊥
IsWholeAt blocks tile (Some block) = IsHalved blocks block × IsHalfAt tile block

-- the leaf of this block has it now, and the others have what they had
pub record HasNoted (block : ℕ × ℕ) (old new : Tournament) : Type 0 where
  pub tree : IsTournament new
  pub leaves : new.leaves ≡ old.leaves
  pub leaf : leaf_in new (middle_in block) ≡ Some block
  pub others : (leaf : ℕ) → leaf ≢ middle_in block → leaf_in new leaf ≡ leaf_in old leaf

abbrev pub NotesWhole : Option (ℕ × ℕ) → Tournament → Tournament → Type 0
NotesWhole None old new = new ≡ old
NotesWhole (Some block) old new = HasNoted block old new

-- the block of which a half begins at the tile is noted, if both its halves are there
abbrev pub IsNoted : List (ℕ × ℕ) → ℕ → Tournament → Tournament → Type 0
IsNoted blocks tile old new = (found : Option (ℕ × ℕ)) × IsWholeAt blocks tile found × NotesWhole found old new
