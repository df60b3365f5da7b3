-- What a post and a fold do to a board that keeps blocks.
use Rattle.std.proofs.Common.{◌≡◌, ◌≢◌, ◌+◌, ◌*◌, ◌/◌, ◌^◌, ◌<◌, ◌≤◌, ℕ, suc, List, [], ◌∷◌, ◌++◌, length, map, get_or, set, take, drop, inl, inr, refl, sym, ap, subst, ◌∙◌, arith, append-nil, None}
use Rattle.std.specs.Prelude.{Option, Some, vec_capacity}
use Rattle.std.specs.List.{All, insert, range_with_len}
use Rattle.std.specs.List.Sorted.{IsPermutation}
use Rattle.std.proofs.lemmas.List.{get_or-drop, get_or-set_other, get_or-set_same, get_or-take, get_or_default, length-drop, length-map, length-take-le, map-append, take-append-drop}
use Rattle.std.proofs.lemmas.List.Elements.{All-drop, All-take}
use Rattle.std.proofs.lemmas.Bool.{cases_lt}
use Rattle.std.proofs.lemmas.Nat.{pow_pos}
use Rattle.std.proofs.lemmas.List.{length-set}
use Rattle.dpl_stars.specs.declared.joined.Joined.{Joined}
use Rattle.dpl_stars.specs.declared.joined.Joined.TheVariants.{Odd}
use Rattle.dpl_stars.specs.Sums.{Sums}
use Rattle.dpl_board.specs.declared.entry.Entry.{Entry}
use Rattle.dpl_board.specs.declared.posts.Posts.{Posts}
use Rattle.dpl_board.specs.declared.kept.Kept.{Kept}
use Rattle.dpl_board.specs.Sheets.{Sheet, edges_at, poster_in}
use Rattle.dpl_board.specs.Summing.{edges_in, tiles_in, tiles_of}
use Rattle.dpl_board.specs.Boards.{Board, HasPosters, IsPost, Stands, board}
use Rattle.dpl_board.specs.Starts.{AreAligned, blocks_of}
use Rattle.dpl_board.specs.declared.tournament.Tournament.{Tournament}
use Rattle.dpl_board.specs.Tournaments.{IsTournament, leaf_in}
use Rattle.dpl_board.specs.Blocks.{AreBlocks, AreKept, AreReady, HasAdded, HasFolded, IsFold, IsHalved, IsNoted, end_of, first_in, middle_in, sums_at, tiles_at}
use Rattle.dpl_board.proofs.Halves.{StandAt, halves-tiles}
use Rattle.dpl_board.proofs.Keeping.{All-folded, All-insert, begins-behind, blocks-folded, blocks-more, end-stands, ends-before, first-stands, firsts-rise, folded, middle-stands}
use Rattle.dpl_board.proofs.Noting.{noted-leaves, ready-folded, ready-more, stands}
use Rattle.dpl_board.proofs.Parts.{posted-more, sums-more, tiles-folded}
use Rattle.dpl_board.proofs.Starts.{before-tile, behind-tile, place_of, place-within}
use Rattle.dpl_board.proofs.Tables.{aligned-folded, aligned-set, left-within, table-folded, table-more}
use Rattle.dpl_board.proofs.Readying.{has-folded, stands-folded}

-- the board that a contract sees
abbrev pub shown : Posts → Kept → Board
shown posts kept = board posts.tiles posts.history.items (map tiles_at (blocks_of kept.starts.items)) (sums_at kept.sums.items (blocks_of kept.starts.items))

one-tile : (t : ℕ) → tiles_at (0, t) ≡ t ∷ []
one-tile t = let e : t * 2 ^ 0 ≡ t = omega arith in ap (λ (n : ℕ). range_with_len n 1) e

-- a summary where none of the blocks begins changes none of theirs
sums-else : (table : List Joined) (at : ℕ) (sum : Joined) (blocks : List (ℕ × ℕ)) → All (λ (b : ℕ × ℕ). first_in b ≢ at) blocks
    → sums_at (set table at sum) blocks ≡ sums_at table blocks
sums-else table at sum [] apart = refl
sums-else table at sum (b ∷ bs) apart =
    let here : get_or (set table at sum) (first_in b) Odd ≡ get_or table (first_in b) Odd = get_or-set_other table at (first_in b) sum Odd (apart 0 b (omega arith)) in
    let rest : sums_at (set table at sum) bs ≡ sums_at table bs = sums-else table at sum bs (λ k d l. apart (suc k) d (omega (arith, l))) in
    λ j. here j ∷ rest j

-- one block more
has-added : (tiles : ℕ) (es fs : List Entry) (blocks : List (ℕ × ℕ)) (table : List Joined) (at t : ℕ) (sum : Joined) → at ≤ length blocks → t < length table
    → All (λ (b : ℕ × ℕ). first_in b ≢ t) blocks
    → HasAdded (board tiles es (map tiles_at blocks) (sums_at table blocks)) (tiles_at (0, t)) sum
    (board tiles fs (map tiles_at (insert blocks at (0, t))) (sums_at (set table t sum) (insert blocks at (0, t))))
has-added tiles es fs blocks table at t sum within below apart =
    let B = take at blocks in
    let A = drop at blocks in
    let old : ℕ × ℕ → Joined = λ b. get_or table (first_in b) Odd in
    let new : ℕ × ℕ → Joined = λ b. get_or (set table t sum) (first_in b) Odd in
    let first : first_in (0, t) ≡ t = omega arith in
    let here : new (0, t) ≡ sum = ap (λ (n : ℕ). get_or (set table t sum) n Odd) first ∙ get_or-set_same table t sum Odd below in
    let before : sums_at (set table t sum) B ≡ sums_at table B = sums-else table t sum B (All-take (λ (b : ℕ × ℕ). first_in b ≢ t) at blocks apart) in
    let after : sums_at (set table t sum) A ≡ sums_at table A = sums-else table t sum A (All-drop (λ (b : ℕ × ℕ). first_in b ≢ t) at blocks apart) in
    record {
      before = map tiles_at B;
      after = map tiles_at A;
      parts = (ap (map tiles_at) (sym (take-append-drop at blocks)) ∙ map-append tiles_at B A, map-append tiles_at B ((0, t) ∷ A));
      first = sums_at table B;
      last = sums_at table A;
      sums = (
        ap (map old) (sym (take-append-drop at blocks)) ∙ map-append old B A,
        map-append new B ((0, t) ∷ A) ∙ (λ j. before j ++ here j ∷ after j),
      );
      same = length-map B old ∙ sym (length-map B tiles_at);
    }

posted-added : (old new : Board) (e : Entry) (es : List Entry) (sum : Joined) → HasAdded old (tiles_at (0, e.tile)) sum new
    → IsPermutation (tiles_in old.parts) (tiles_of es) → IsPermutation (tiles_in new.parts) (tiles_of (es ++ e ∷ []))
posted-added old new e es sum added posted =
    rw (added.parts.1, one-tile e.tile) (posted-more added.before added.after es e (rw (← added.parts.0) posted))

stands-added : (sheet : Sheet) (old new : Board) (e : Entry) (sum : Joined) → new.tiles ≡ old.tiles → new.history ≡ old.history ++ e ∷ []
    → HasAdded old (tiles_at (0, e.tile)) sum new → Stands sheet old → Sums (edges_at sheet e.tile) sum → Stands sheet new
stands-added sheet old new e sum tiles history added stands sums =
    let here : Sums (edges_in sheet (tiles_at (0, e.tile))) sum =
    subst (λ ts. Sums (edges_in sheet ts) sum) (sym (one-tile e.tile)) (subst (λ es. Sums es sum) (sym (append-nil (edges_at sheet e.tile))) sums) in
    record {
      edges = stands.edges;
      tiles = tiles ∙ stands.tiles;
      sums = rw (added.parts.1, added.sums.1) (sums-more sheet added.before added.after added.first added.last (tiles_at (0, e.tile)) sum added.same
          (rw (← added.parts.0, ← added.sums.0) stands.sums) here);
      posted = rw history (posted-added old new e old.history sum added stands.posted);
    }

-- the blocks with one of a tile that isn't posted among them
module _ (posts : Posts) (kept : Kept) (t : ℕ) (are : AreKept posts kept) (below : t < posts.tiles) (small : posts.tiles < 2 ^ 32)
    (none : poster_in t posts.history.items ≡ None) where
  abbrev B : List (ℕ × ℕ)
  B = blocks_of kept.starts.items

  abbrev at : ℕ
  at = place_of 0 t kept.starts.items

  abbrev more : List (Option ℕ)
  more = set kept.starts.items t (Some 0)

  in-starts : t < length kept.starts.items
  in-starts = let l = are.starts in omega (arith, l, below)

  pub more-is : blocks_of more ≡ insert B at (0, t)
  more-is = table-more kept.starts.items posts.history.items t are.aligned are.posted none in-starts

  place : at ≤ length B
  place = place-within 0 t kept.starts.items

  before : (n : ℕ) (d : ℕ × ℕ) → n < at → first_in (get_or B n d) < t
  before n d l = before-tile kept.starts.items t n d are.aligned l

  behind : (n : ℕ) (d : ℕ × ℕ) → at ≤ n → n < length B → t + 1 ≤ first_in (get_or B n d)
  behind n d a l = begins-behind B posts.history.items t are.posted none n d l (behind-tile kept.starts.items t n d are.aligned a l)

  none-begins : All (λ (b : ℕ × ℕ). first_in b ≢ t) B
  none-begins n d l same = elim (cases_lt n at) [
    | inl up ↦ (let f = before n d up in omega (arith, f, same))
    | inr past ↦ (let f = behind n d past l in omega (arith, f, same))
  ]

  pub more-aligned : AreAligned more
  more-aligned = let e : t / 2 ^ 0 * 2 ^ 0 ≡ t = omega arith in aligned-set kept.starts.items t 0 in-starts e are.aligned

  more-blocks-list : AreBlocks (insert B at (0, t))
  more-blocks-list = blocks-more B at t are.blocks place (omega (arith, below, small))
      (λ n d l. ends-before B posts.history.items t are.posted none n d (let p = place in omega (arith, l, p)) (before n d l)) behind

  more-within-list : All (λ (b : ℕ × ℕ). end_of b ≤ posts.tiles) (insert B at (0, t))
  more-within-list = All-insert (λ (b : ℕ × ℕ). end_of b ≤ posts.tiles) B at (0, t) are.within (omega (arith, below))

  pub more-blocks : AreBlocks (blocks_of more)
  more-blocks = subst AreBlocks (sym more-is) more-blocks-list

  pub more-within : All (λ (b : ℕ × ℕ). end_of b ≤ posts.tiles) (blocks_of more)
  more-within = subst (All (λ (b : ℕ × ℕ). end_of b ≤ posts.tiles)) (sym more-is) more-within-list

  pub more-ready : (new : Tournament) → IsNoted (blocks_of more) t kept.ready new → AreReady (blocks_of more) new
  more-ready new noted = subst (λ (bs : List (ℕ × ℕ)). AreReady bs new) (sym more-is)
      (ready-more B at t kept.ready new place more-blocks-list
      (subst (λ (n : ℕ). All (λ (b : ℕ × ℕ). end_of b ≤ n) (insert B at (0, t))) (sym are.leaves) more-within-list) are.ready
      (subst (λ (bs : List (ℕ × ℕ)). IsNoted bs t kept.ready new) more-is noted))

  pub more-added : (fs : List Entry) (sum : Joined) → HasAdded (shown posts kept) (tiles_at (0, t)) sum
      (board posts.tiles fs (map tiles_at (blocks_of more)) (sums_at (set kept.sums.items t sum) (blocks_of more)))
  more-added fs sum = subst (λ (bs : List (ℕ × ℕ)). HasAdded (shown posts kept) (tiles_at (0, t)) sum
      (board posts.tiles fs (map tiles_at bs) (sums_at (set kept.sums.items t sum) bs))) (sym more-is)
      (has-added posts.tiles posts.history.items fs B kept.sums.items at t sum place (let l = are.sums in omega (arith, below, l)) none-begins)

module _ (posts posts' : Posts) (kept kept' : Kept) (sum : Joined) where
  -- a post
  pub kept-more : (e : Entry) → AreKept posts kept → HasPosters posts' → posts'.tiles ≡ posts.tiles → posts'.history.items ≡ posts.history.items ++ e ∷ []
      → e.tile < posts.tiles → posts.tiles < 2 ^ 32 → poster_in e.tile posts.history.items ≡ None
      → kept'.starts.items ≡ set kept.starts.items e.tile (Some 0) → kept'.sums.items ≡ set kept.sums.items e.tile sum
      → vec_capacity kept'.list ≡ vec_capacity kept.list → IsNoted (blocks_of (set kept.starts.items e.tile (Some 0))) e.tile kept.ready kept'.ready
      → AreKept posts' kept' × IsPost (shown posts kept) e sum (shown posts' kept') × HasAdded (shown posts kept) (tiles_at (0, e.tile)) sum (shown posts' kept')
  kept-more e are posters tiles history below small none starts_is sums_is room noted =
      let es = posts.history.items in
      let blocks_is : blocks_of kept'.starts.items ≡ blocks_of (set kept.starts.items e.tile (Some 0)) = ap blocks_of starts_is in
      let added : HasAdded (shown posts kept) (tiles_at (0, e.tile)) sum (shown posts' kept') =
      rw (starts_is, sums_is, tiles) (more-added posts kept e.tile are below small none posts'.history.items sum) in
      let leaves : kept'.ready.leaves ≡ kept.ready.leaves = noted-leaves kept.ready kept'.ready noted.0 noted.2 in (
        record {
          posters = posters;
          aligned = rw starts_is (more-aligned posts kept e.tile are below small none);
          blocks = rw starts_is (more-blocks posts kept e.tile are below small none);
          within = rw (starts_is, tiles) (more-within posts kept e.tile are below small none);
          starts = ap length starts_is ∙ (length-set kept.starts.items e.tile (Some 0) ∙ (are.starts ∙ sym tiles));
          sums = ap length sums_is ∙ (length-set kept.sums.items e.tile sum ∙ (are.sums ∙ sym tiles));
          leaves = leaves ∙ (are.leaves ∙ sym tiles);
          ready = rw starts_is (more-ready posts kept e.tile are below small none kept'.ready noted);
          posted = rw history (posted-added (shown posts kept) (shown posts' kept') e es sum added are.posted);
          room = rw (tiles, room) are.room;
        },
        record {
          tiles = tiles;
          history = history;
          stands = λ sheet stands sums. stands-added sheet (shown posts kept) (shown posts' kept') e sum tiles history added stands sums;
        },
        added,
      )

-- the table with a block in place of its halves
abbrev pub folded-table : Kept → ℕ × ℕ → List (Option ℕ)
folded-table kept block = set (set kept.starts.items (middle_in block) None) (first_in block) (Some block.0)

module _ (posts : Posts) (kept : Kept) (block : ℕ × ℕ) (are : AreKept posts kept) (halved : IsHalved (blocks_of kept.starts.items) block) where
  abbrev C : List (ℕ × ℕ)
  C = blocks_of kept.starts.items

  abbrev p : ℕ
  p = (stands C are.blocks block halved).0

  stand : StandAt C block p
  stand = (stands C are.blocks block halved).1

  folded-is : blocks_of (folded-table kept block) ≡ folded C p block
  folded-is = table-folded kept.starts.items are.aligned are.blocks block halved

  pub folded-aligned : AreAligned (folded-table kept block)
  folded-aligned = aligned-folded kept.starts.items are.aligned are.blocks block halved

  pub folded-low : first_in block < length (folded-table kept block)
  folded-low = subst (λ (n : ℕ). first_in block < n)
      (sym (length-set (set kept.starts.items (middle_in block) None) (first_in block) (Some block.0) ∙ length-set kept.starts.items (middle_in block) None))
      (left-within kept.starts.items are.aligned are.blocks block halved)

  folded-blocks-list : AreBlocks (folded C p block)
  folded-blocks-list = blocks-folded C block p are.blocks stand

  folded-within-list : All (λ (b : ℕ × ℕ). end_of b ≤ posts.tiles) (folded C p block)
  folded-within-list =
      let ends = end-stands C block p stand in
      let right : end_of (get_or C (p + 1) (0, 0)) ≤ posts.tiles = are.within (p + 1) (0, 0) stand.0 in
      All-folded (λ (b : ℕ × ℕ). end_of b ≤ posts.tiles) C p block are.within (omega (arith, ends, right))

  pub folded-blocks : AreBlocks (blocks_of (folded-table kept block))
  folded-blocks = subst AreBlocks (sym folded-is) folded-blocks-list

  pub folded-within : All (λ (b : ℕ × ℕ). end_of b ≤ posts.tiles) (blocks_of (folded-table kept block))
  folded-within = subst (All (λ (b : ℕ × ℕ). end_of b ≤ posts.tiles)) (sym folded-is) folded-within-list

  pub folded-ready : (cleared new : Tournament) → IsTournament cleared → cleared.leaves ≡ kept.ready.leaves → leaf_in cleared (middle_in block) ≡ None
      → ((leaf : ℕ) → leaf ≢ middle_in block → leaf_in cleared leaf ≡ leaf_in kept.ready leaf)
      → IsNoted (blocks_of (folded-table kept block)) (first_in block) cleared new → AreReady (blocks_of (folded-table kept block)) new
  folded-ready cleared new tree leaves gone others noted = subst (λ (bs : List (ℕ × ℕ)). AreReady bs new) (sym folded-is)
      (ready-folded C p block kept.ready cleared new are.blocks stand folded-blocks-list
      (subst (λ (n : ℕ). All (λ (b : ℕ × ℕ). end_of b ≤ n) (folded C p block)) (sym are.leaves) folded-within-list) are.ready tree leaves gone others
      (subst (λ (bs : List (ℕ × ℕ)). IsNoted bs (first_in block) cleared new) folded-is noted))

  pub folded-sums : (bare sum : Joined) → HasFolded (shown posts kept) block sum
      (board posts.tiles posts.history.items (map tiles_at (blocks_of (folded-table kept block)))
      (sums_at (set (set kept.sums.items (middle_in block) bare) (first_in block) sum) (blocks_of (folded-table kept block))))
  folded-sums bare sum =
      let S = kept.sums.items in
      let T = set (set S (middle_in block) bare) (first_in block) sum in
      let left : first_in (get_or C p (0, 0)) ≡ first_in block = first-stands C block p stand in
      let right : first_in (get_or C (p + 1) (0, 0)) ≡ middle_in block = middle-stands C block p stand in
      let up : first_in (get_or C p (0, 0)) < first_in (get_or C (p + 1) (0, 0)) = firsts-rise C are.blocks p (p + 1) (0, 0) (omega arith) stand.0 in
      let ends : end_of (get_or C (p + 1) (0, 0)) ≡ end_of block = end-stands C block p stand in
      let inside_right : end_of (get_or C (p + 1) (0, 0)) ≤ posts.tiles = are.within (p + 1) (0, 0) stand.0 in
      let low : All (λ (c : ℕ × ℕ). first_in c < first_in block) (take p C) = λ k d l.
      (let e = length-take-le p C (let s = stand.0 in omega (arith, s)) in let i : k < p = omega (arith, e, l) in
      let f = firsts-rise C are.blocks k p (0, 0) i (let s = stand.0 in omega (arith, s)) in
      let g : first_in (get_or (take p C) k d) ≡ first_in (get_or C k (0, 0)) =
      ap first_in (get_or-take p C k d i ∙ get_or_default C k d (0, 0) (let s = stand.0 in omega (arith, s, i))) in
      omega (arith, f, g, left)) in
      let high : All (λ (c : ℕ × ℕ). middle_in block < first_in c) (drop (suc (suc p)) C) = λ k d l.
      (let e = length-drop (suc (suc p)) C in let i : suc (suc p) + k < length C = omega (arith, e, l) in
      let f = firsts-rise C are.blocks (p + 1) (suc (suc p) + k) (0, 0) (omega arith) i in
      let g : first_in (get_or (drop (suc (suc p)) C) k d) ≡ first_in (get_or C (suc (suc p) + k) (0, 0)) =
      ap first_in (get_or-drop (suc (suc p)) C k d ∙ get_or_default C (suc (suc p) + k) d (0, 0) i) in
      omega (arith, f, g, right)) in
      let first : sums_at T (take p C) ≡ sums_at S (take p C) =
      sums-else (set S (middle_in block) bare) (first_in block) sum (take p C) (λ k d l e. (let f = low k d l in omega (arith, f, e)))
      ∙ sums-else S (middle_in block) bare (take p C) (λ k d l e. (let f = low k d l in omega (arith, f, e, left, right, up))) in
      let last : sums_at T (drop (suc (suc p)) C) ≡ sums_at S (drop (suc (suc p)) C) =
      sums-else (set S (middle_in block) bare) (first_in block) sum (drop (suc (suc p)) C) (λ k d l e. (let f = high k d l in omega (arith, f, e, left, right, up)))
      ∙ sums-else S (middle_in block) bare (drop (suc (suc p)) C) (λ k d l e. (let f = high k d l in omega (arith, f, e))) in
      let in_table : first_in block < length S =
      (let q = pow_pos (get_or C (p + 1) (0, 0)).0 in let l = are.sums in omega (arith, left, up, q, inside_right, l)) in
      let here : get_or T (first_in block) Odd ≡ sum =
      get_or-set_same (set S (middle_in block) bare) (first_in block) sum Odd (rw (length-set S (middle_in block) bare) in_table) in
      subst (λ (bs : List (ℕ × ℕ)). HasFolded (shown posts kept) block sum (board posts.tiles posts.history.items (map tiles_at bs) (sums_at T bs))) (sym folded-is)
      (has-folded posts.tiles posts.history.items C S T block p sum stand first last here)

-- a fold
pub kept-folded : (posts : Posts) (kept kept' : Kept) (cleared : Tournament) (bare sum : Joined) (block : ℕ × ℕ) → AreKept posts kept
    → IsHalved (blocks_of kept.starts.items) block → kept'.starts.items ≡ folded-table kept block
    → kept'.sums.items ≡ set (set kept.sums.items (middle_in block) bare) (first_in block) sum → vec_capacity kept'.list ≡ vec_capacity kept.list
    → IsTournament cleared → cleared.leaves ≡ kept.ready.leaves → leaf_in cleared (middle_in block) ≡ None
    → ((leaf : ℕ) → leaf ≢ middle_in block → leaf_in cleared leaf ≡ leaf_in kept.ready leaf)
    → IsNoted (blocks_of (folded-table kept block)) (first_in block) cleared kept'.ready
    → AreKept posts kept' × IsFold (shown posts kept) block sum (shown posts kept')
kept-folded posts kept kept' cleared bare sum block are halved starts_is sums_is room tree leaves gone others noted =
    let S = kept.sums.items in
    let folds : HasFolded (shown posts kept) block sum (shown posts kept') =
    rw (starts_is, sums_is) (folded-sums posts kept block are halved bare sum) in (
      record {
        posters = are.posters;
        aligned = rw starts_is (folded-aligned posts kept block are halved);
        blocks = rw starts_is (folded-blocks posts kept block are halved);
        within = rw starts_is (folded-within posts kept block are halved);
        starts = ap length starts_is ∙ (length-set (set kept.starts.items (middle_in block) None) (first_in block) (Some block.0)
            ∙ (length-set kept.starts.items (middle_in block) None ∙ are.starts));
        sums = ap length sums_is ∙ (length-set (set S (middle_in block) bare) (first_in block) sum ∙ (length-set S (middle_in block) bare ∙ are.sums));
        leaves = noted-leaves cleared kept'.ready noted.0 noted.2 ∙ (leaves ∙ are.leaves);
        ready = rw starts_is (folded-ready posts kept block are halved cleared kept'.ready tree leaves gone others noted);
        posted = rw (
          folds.parts.1,
          tiles-folded folds.before folds.after (tiles_at (folds.half, 2 * block.1)) (tiles_at (folds.half, 2 * block.1 + 1)) (tiles_at block)
              (halves-tiles block folds.half folds.size),
          ← folds.parts.0,
        ) are.posted;
        room = rw room are.room;
      },
      record {
        tiles = refl;
        history = refl;
        blocks = folds;
        stands = λ sheet stands sums. stands-folded sheet (shown posts kept) (shown posts kept') block sum refl refl folds stands sums;
      },
    )
