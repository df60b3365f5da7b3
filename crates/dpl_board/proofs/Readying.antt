-- Blocks whose halves are kept, as the list of blocks has them and as the board.
use Rattle.std.proofs.Common.{◌≡◌, ◌+◌, ◌*◌, ◌<◌, ℕ, suc, List, [], ◌∷◌, ◌++◌, map, get_or, take, drop, sym, ap, ◌∙◌}
use Rattle.std.specs.Prelude.{Option, None, Some, MatchOption}
use Rattle.std.specs.List.{Contains}
use Rattle.std.proofs.lemmas.List.{get_or-map, length-map, map-append}
use Rattle.dpl_stars.specs.declared.joined.Joined.{Joined}
use Rattle.dpl_stars.specs.declared.joined.Joined.TheVariants.{Odd}
use Rattle.dpl_stars.specs.Sums.{Sums, SumsBoth}
use Rattle.dpl_board.specs.declared.entry.Entry.{Entry}
use Rattle.dpl_board.specs.Sheets.{Sheet}
use Rattle.dpl_board.specs.Summing.{edges_in}
use Rattle.dpl_board.specs.Boards.{Board, Stands, board}
use Rattle.dpl_board.specs.declared.tournament.Tournament.{Tournament}
use Rattle.dpl_board.specs.Tournaments.{HasLeast, leaf_in}
use Rattle.dpl_board.specs.Blocks.{AreReady, HasFolded, IsHalved, IsLeastReady, IsReady, Keeps, KeepsHalves, first_in, middle_in, sums_at, tiles_at}
use Rattle.dpl_board.proofs.Halves.{StandAt, from-part, halves-tiles, left-first, middle-first, to-part}
use Rattle.dpl_board.proofs.Keeping.{folded, split-two}
use Rattle.dpl_board.proofs.Parts.{sums-folded, tiles-folded, zip-at}
use Rattle.dpl_board.proofs.Summings.{edges-append, edges-pairs}

module _ (tiles : ℕ) (history : List Entry) (blocks : List (ℕ × ℕ)) (table : List Joined) where
  abbrev here : Board
  here = board tiles history (map tiles_at blocks) (sums_at table blocks)

  pub to-halved : (block : ℕ × ℕ) → IsReady here block → IsHalved blocks block
  to-halved block ready = record {
    half = ready.half;
    size = ready.size;
    left = from-part blocks (ready.half, 2 * block.1) ready.left;
    right = from-part blocks (ready.half, 2 * block.1 + 1) ready.right;
  }

  pub to-ready : (block : ℕ × ℕ) → IsHalved blocks block → IsReady here block
  to-ready block halved = record {
    half = halved.half;
    size = halved.size;
    left = to-part blocks (halved.half, 2 * block.1) halved.left;
    right = to-part blocks (halved.half, 2 * block.1 + 1) halved.right;
  }

  -- what the tournament tells
  pub least-ready : (t : Tournament) (least : Option (ℕ × ℕ)) → AreReady blocks t
      → MatchOption least ((leaf : ℕ) → leaf < t.leaves → leaf_in t leaf ≡ None) (λ block. HasLeast t block)
      → MatchOption least ((block : ℕ × ℕ) → IsReady here block → ⊥) (λ block. IsLeastReady here block)
  least-ready t None are none = λ block ready. (let e = are.each block (to-halved block ready) in apart (leaf_in t (middle_in block)) (none (middle_in block) e.0) e.1)
    where
      apart : {b : ℕ × ℕ} (x : Option (ℕ × ℕ)) → x ≡ None → x ≡ Some b → ⊥
      apart None e f = cc
      apart (Some x) e f = cc
  least-ready t (Some block) are least = (
    to-ready block (are.sound least.0.0 block least.0.1 least.0.2).1,
    λ other ready. (let e = are.each other (to-halved other ready) in least.1 (middle_in other) other e.0 e.1),
  )

  abbrev sum_of : ℕ × ℕ → Joined
  sum_of b = get_or table (first_in b) Odd

  keeps : (b : ℕ × ℕ) (j : Joined) → Contains blocks b → sum_of b ≡ j → Keeps here (tiles_at b) j
  keeps b j (n, l, is) at = (
    n,
    rw (length-map blocks tiles_at) l,
    λ d e. (get_or-map tiles_at blocks n b d l ∙ ap tiles_at is, get_or-map sum_of blocks n b e l ∙ (ap sum_of is ∙ at)),
  )

  pub keeps-halves : (block : ℕ × ℕ) (left right : Joined) → IsHalved blocks block → get_or table (first_in block) Odd ≡ left → get_or table (middle_in block) Odd ≡ right
      → KeepsHalves here block (left, right)
  keeps-halves block left right halved l_is r_is = (
    halved.half,
    halved.size,
    keeps (halved.half, 2 * block.1) left halved.left (ap (λ (n : ℕ). get_or table n Odd) (left-first block halved.half halved.size) ∙ l_is),
    keeps (halved.half, 2 * block.1 + 1) right halved.right (ap (λ (n : ℕ). get_or table n Odd) (sym (middle-first block halved.half halved.size)) ∙ r_is),
  )

  -- the block in place of its halves
  pub has-folded : (changed : List Joined) (block : ℕ × ℕ) (n : ℕ) (sum : Joined) → StandAt blocks block n
      → sums_at changed (take n blocks) ≡ sums_at table (take n blocks) → sums_at changed (drop (suc (suc n)) blocks) ≡ sums_at table (drop (suc (suc n)) blocks)
      → get_or changed (first_in block) Odd ≡ sum
      → HasFolded here block sum (board tiles history (map tiles_at (folded blocks n block)) (sums_at changed (folded blocks n block)))
  has-folded changed block n sum (within, halves) first last at =
      let h = (get_or blocks n (0, 0)).0 in
      let one : get_or blocks n (0, 0) ≡ (h, 2 * block.1) = λ j. (h, halves.left j) in
      let two : get_or blocks (n + 1) (0, 0) ≡ (h, 2 * block.1 + 1) = λ j. (halves.right.0 j, (halves.right.1 ∙ ap (λ (n : ℕ). n + 1) halves.left) j) in
      let B = take n blocks in
      let A = drop (suc (suc n)) blocks in
      let was : blocks ≡ B ++ (h, 2 * block.1) ∷ (h, 2 * block.1 + 1) ∷ A = split-two blocks n (0, 0) within
      ∙ (λ j. B ++ one j ∷ two j ∷ A) in
      record {
        half = h;
        size = halves.size;
        before = map tiles_at B;
        after = map tiles_at A;
        parts = (ap (map tiles_at) was ∙ map-append tiles_at B ((h, 2 * block.1) ∷ (h, 2 * block.1 + 1) ∷ A), map-append tiles_at B (block ∷ A));
        first = sums_at table B;
        last = sums_at table A;
        halves = (sum_of (h, 2 * block.1), sum_of (h, 2 * block.1 + 1));
        sums = (
          ap (sums_at table) was ∙ map-append sum_of B ((h, 2 * block.1) ∷ (h, 2 * block.1 + 1) ∷ A),
          map-append (λ (b : ℕ × ℕ). get_or changed (first_in b) Odd) B (block ∷ A) ∙ (λ j. first j ++ at j ∷ last j),
        );
        same = length-map B sum_of ∙ sym (length-map B tiles_at);
      }

-- Whatever sheet a board stood for, it stands for it with the block in place of its halves.
pub stands-folded : (sheet : Sheet) (old new : Board) (block : ℕ × ℕ) (sum : Joined) → new.tiles ≡ old.tiles → new.history ≡ old.history → HasFolded old block sum new
    → Stands sheet old → Sums (edges_in sheet (tiles_at block)) sum → Stands sheet new
stands-folded sheet old new block sum tiles history f stands sums =
    let left = tiles_at (f.half, 2 * block.1) in
    let right = tiles_at (f.half, 2 * block.1 + 1) in
    record {
      edges = stands.edges;
      tiles = tiles ∙ stands.tiles;
      sums = rw (f.parts.1, f.sums.1) (sums-folded sheet f.before f.after f.first f.last left right (tiles_at block) f.halves.0 f.halves.1 sum f.same
          (rw (← f.parts.0, ← f.sums.0) stands.sums) sums);
      posted = rw (history, f.parts.1, tiles-folded f.before f.after left right (tiles_at block) (halves-tiles block f.half f.size), ← f.parts.0) stands.posted;
    }

-- what sums up both halves sums up the block
pub merged-sums : (sheet : Sheet) (b : Board) (block : ℕ × ℕ) (halves : Joined × Joined) (both : Joined) → Stands sheet b → KeepsHalves b block halves
    → SumsBoth halves.0 halves.1 both → Sums (edges_in sheet (tiles_at block)) both
merged-sums sheet b block halves both stands (h, size, (m, m_in, m_at), (n, n_in, n_at)) sums =
    let left = tiles_at (h, 2 * block.1) in
    let right = tiles_at (h, 2 * block.1 + 1) in
    let R : List ℕ → Joined → Type 0 = λ tiles j. Sums (edges_in sheet tiles) j in
    let one : R left halves.0 = rw (← (m_at [] halves.0).0, ← (m_at [] halves.0).1) (zip-at R b.parts b.sums m [] halves.0 stands.sums m_in) in
    let two : R right halves.1 = rw (← (n_at [] halves.1).0, ← (n_at [] halves.1).1) (zip-at R b.parts b.sums n [] halves.1 stands.sums n_in) in
    rw (halves-tiles block h size, edges-append sheet left right)
    (sums (edges_in sheet left) (edges_in sheet right) (edges-pairs sheet left stands.edges) (edges-pairs sheet right stands.edges) one two)
