-- Lists of blocks with one more, or one in place of its halves.
use Rattle.std.proofs.Common.{◌≡◌, ◌+◌, ◌*◌, ◌-◌, ◌^◌, ◌<◌, ◌≤◌, ℕ, zero, suc, List, [], ◌∷◌, ◌++◌, length, map, get_or, set, take, drop, inl, inr, sym, ap, ◌∙◌, arith, append_assoc, None}
use Rattle.std.specs.List.{All, AllPairs, Contains, insert, range_with_len, remove}
use Rattle.std.proofs.lemmas.Bool.{cases_lt}
use Rattle.std.proofs.lemmas.Nat.{pow_pos}
use Rattle.std.proofs.lemmas.List.{drop_more, get_or_default, get_or-map, length-map, length-take-le, set_at, take-append-drop, take_more}
use Rattle.std.proofs.lemmas.List.Elements.{All-append, All-cons, All-drop, All-take}
use Rattle.std.proofs.lemmas.List.FromFn.{get_or-range_with_len, length-range_with_len}
use Rattle.std.proofs.lemmas.List.Kept.{AllPairs-cons}
use Rattle.std.proofs.lemmas.List.Sorted.{Contains-permutation}
use Rattle.dpl_board.specs.declared.entry.Entry.{Entry}
use Rattle.dpl_board.specs.Sheets.{poster_in}
use Rattle.dpl_board.specs.Summing.{tiles_in, tiles_of}
use Rattle.dpl_board.specs.Blocks.{AreBlocks, ArePostedTiles, end_of, first_in, middle_in, tiles_at}
use Rattle.dpl_board.proofs.Flats.{in-flat}
use Rattle.dpl_board.proofs.Posters.{none-differs}
use Rattle.dpl_board.proofs.Halves.{StandAt, left-first, middle-first, right-first, size}

module _ {X : Type 0} where
  pub All-insert : (P : X → Type 0) (xs : List X) (at : ℕ) (y : X) → All P xs → P y → All P (insert xs at y)
  All-insert P xs at y all here = All-append P (take at xs) (y ∷ drop at xs) (All-take P at xs all) (All-cons P y (drop at xs) here (All-drop P at xs all))

  pairs-insert : (R : X → X → Type 0) (xs : List X) (at : ℕ) (y : X) → at ≤ length xs → AllPairs R xs
      → ((n : ℕ) (d : X) → n < at → R (get_or xs n d) y) → ((n : ℕ) (d : X) → at ≤ n → n < length xs → R y (get_or xs n d)) → AllPairs R (insert xs at y)
  pairs-insert R xs zero y within old before after = AllPairs-cons R y xs (λ k d l. after k d (omega arith) l) old
  pairs-insert R [] (suc at) y within old before after = absurd (omega (arith, within))
  pairs-insert R (x ∷ xs) (suc at) y within old before after =
      AllPairs-cons R x (insert xs at y)
      (All-insert (R x) xs at y (λ k d l. old 0 (suc k) d (omega arith) (omega (arith, l))) (before 0 x (omega arith)))
      (pairs-insert R xs at y (omega (arith, within)) (λ i j d l m. old (suc i) (suc j) d (omega (arith, l)) (omega (arith, m)))
      (λ n d l. before (suc n) d (omega (arith, l))) (λ n d a l. after (suc n) d (omega (arith, a)) (omega (arith, l))))

  -- y in place of the two from p on
  abbrev pub folded : List X → ℕ → X → List X
  folded xs p y = take p xs ++ y ∷ drop (suc (suc p)) xs

  pairs-folded : (R : X → X → Type 0) (xs : List X) (p : ℕ) (y : X) → p + 1 < length xs → AllPairs R xs
      → ((n : ℕ) (d : X) → n < p → R (get_or xs n d) y) → ((n : ℕ) (d : X) → p + 1 < n → n < length xs → R y (get_or xs n d)) → AllPairs R (folded xs p y)
  pairs-folded R [] p y within old before after = absurd (omega (arith, within))
  pairs-folded R (x ∷ []) p y within old before after = absurd (omega (arith, within))
  pairs-folded R (x ∷ z ∷ xs) zero y within old before after =
      AllPairs-cons R y xs (λ k d l. after (suc (suc k)) d (omega arith) (omega (arith, l)))
      (λ i j d l m. old (suc (suc i)) (suc (suc j)) d (omega (arith, l)) (omega (arith, m)))
  pairs-folded R (x ∷ z ∷ xs) (suc p) y within old before after =
      let rest : All (R x) (z ∷ xs) = λ k d l. old 0 (suc k) d (omega arith) (omega (arith, l)) in
      AllPairs-cons R x (folded (z ∷ xs) p y)
      (All-append (R x) (take p (z ∷ xs)) (y ∷ drop (suc (suc p)) (z ∷ xs)) (All-take (R x) p (z ∷ xs) rest)
      (All-cons (R x) y (drop (suc (suc p)) (z ∷ xs)) (before 0 x (omega arith)) (All-drop (R x) (suc (suc p)) (z ∷ xs) rest)))
      (pairs-folded R (z ∷ xs) p y (omega (arith, within)) (λ i j d l m. old (suc i) (suc j) d (omega (arith, l)) (omega (arith, m)))
      (λ n d l. before (suc n) d (omega (arith, l))) (λ n d a l. after (suc n) d (omega (arith, a)) (omega (arith, l))))

  pub All-folded : (P : X → Type 0) (xs : List X) (p : ℕ) (y : X) → All P xs → P y → All P (folded xs p y)
  All-folded P xs p y all here =
      All-append P (take p xs) (y ∷ drop (suc (suc p)) xs) (All-take P p xs all) (All-cons P y (drop (suc (suc p)) xs) here (All-drop P (suc (suc p)) xs all))

  -- the two from p on, among the others
  pub split-two : (xs : List X) (p : ℕ) (d : X) → p + 1 < length xs → xs ≡ take p xs ++ get_or xs p d ∷ get_or xs (p + 1) d ∷ drop (suc (suc p)) xs
  split-two xs p d within =
      let e : p + 1 + 1 ≡ suc (suc p) = omega arith in
      sym (take-append-drop p xs) ∙ ap (λ (l : List X). take p xs ++ l)
      (drop_more xs p d (omega (arith, within)) ∙ ap (λ (l : List X). get_or xs p d ∷ l)
      (drop_more xs (p + 1) d within ∙ ap (λ (n : ℕ). get_or xs (p + 1) d ∷ drop n xs) e))

  -- what the code leaves when it folds
  pub is-folded : (xs : List X) (p : ℕ) (y d : X) → p + 1 < length xs → set (remove xs (p + 1)) p y ≡ folded xs p y
  is-folded xs p y d within =
      let D = drop (suc (suc p)) xs in
      let x = get_or xs p d in
      let e : suc (p + 1) ≡ suc (suc p) = omega arith in
      let one : remove xs (p + 1) ≡ take p xs ++ x ∷ D =
      ap (λ (n : ℕ). take (p + 1) xs ++ drop n xs) e ∙ (ap (λ (l : List X). l ++ D) (take_more xs p d (omega (arith, within))) ∙ append_assoc (take p xs) (x ∷ []) D) in
      ap (λ (l : List X). set l p y) one ∙ set_at (take p xs) x D y p (length-take-le p xs (omega (arith, within)))

-- a number within a range
in-range : (a n t : ℕ) → a ≤ t → t < a + n → Contains (range_with_len a n) t
in-range a n t low high =
    let l : t - a < n = omega (arith, low, high) in
    let e : a + (t - a) ≡ t = omega (arith, low) in
    (t - a, rw (length-range_with_len a n) l, get_or-range_with_len a n (t - a) t l ∙ e)

module _ (blocks : List (ℕ × ℕ)) (es : List Entry) (t : ℕ) (posted : ArePostedTiles (map tiles_at blocks) es) (none : poster_in t es ≡ None) where
  not-posted : Contains (tiles_of es) t → ⊥
  not-posted (k, l, is) =
      let within : k < length es = rw (← length-map es (λ (e : Entry). e.tile)) l in
      let e : Entry = record { worker = 0; tile = 0 } in
      none-differs t es none k e within (sym (get_or-map (λ (e : Entry). e.tile) es k e t within) ∙ is)

  -- a block that begins before a tile that isn't posted ends before it, too
  pub ends-before : (n : ℕ) (d : ℕ × ℕ) → n < length blocks → first_in (get_or blocks n d) < t → end_of (get_or blocks n d) ≤ t
  ends-before n d l first = elim (cases_lt t (end_of (get_or blocks n d))) [
    | inr past ↦ past
    | inl within ↦ absurd (not-posted (Contains-permutation (tiles_in (map tiles_at blocks)) (tiles_of es) t posted
        (in-flat (λ (tiles : List ℕ). tiles) (map tiles_at blocks) (tiles_at (get_or blocks n d)) t
        (n, rw (length-map blocks tiles_at) l, get_or-map tiles_at blocks n d (tiles_at (get_or blocks n d)) l)
        (in-range (first_in (get_or blocks n d)) (2 ^ (get_or blocks n d).0) t (omega (arith, first)) within))))
  ]

  -- and one that doesn't begin before it begins behind it
  pub begins-behind : (n : ℕ) (d : ℕ × ℕ) → n < length blocks → t ≤ first_in (get_or blocks n d) → t + 1 ≤ first_in (get_or blocks n d)
  begins-behind n d l first = elim (cases_lt t (first_in (get_or blocks n d))) [
    | inl up ↦ omega (arith, up)
    | inr same ↦ absurd (not-posted (Contains-permutation (tiles_in (map tiles_at blocks)) (tiles_of es) t posted
        (in-flat (λ (tiles : List ℕ). tiles) (map tiles_at blocks) (tiles_at (get_or blocks n d)) t
        (n, rw (length-map blocks tiles_at) l, get_or-map tiles_at blocks n d (tiles_at (get_or blocks n d)) l)
        (in-range (first_in (get_or blocks n d)) (2 ^ (get_or blocks n d).0) t same (let h = pow_pos (get_or blocks n d).0 in omega (arith, first, same, h))))))
  ]

-- a block of one tile more
pub blocks-more : (blocks : List (ℕ × ℕ)) (at t : ℕ) → AreBlocks blocks → at ≤ length blocks → t + 1 < 2 ^ 32
    → ((n : ℕ) (d : ℕ × ℕ) → n < at → end_of (get_or blocks n d) ≤ t) → ((n : ℕ) (d : ℕ × ℕ) → at ≤ n → n < length blocks → t + 1 ≤ first_in (get_or blocks n d))
    → AreBlocks (insert blocks at (0, t))
blocks-more blocks at t old within small before after =
    let first : first_in (0, t) ≡ t = omega arith in
    let end : end_of (0, t) ≡ t + 1 = omega (arith, first) in
    record {
      apart = pairs-insert (λ (b c : ℕ × ℕ). end_of b ≤ first_in c) blocks at (0, t) within old.apart
          (λ n d l. (let h = before n d l in omega (arith, h, first))) (λ n d a l. (let h = after n d a l in omega (arith, h, end)));
      small = All-insert (λ (b : ℕ × ℕ). end_of b < 2 ^ 32) blocks at (0, t) old.small (omega (arith, small, end));
    }

-- a block in place of its halves
pub blocks-folded : (blocks : List (ℕ × ℕ)) (block : ℕ × ℕ) (p : ℕ) → AreBlocks blocks → StandAt blocks block p → AreBlocks (folded blocks p block)
blocks-folded blocks block p old (within, halves) =
    let h = (get_or blocks p (0, 0)).0 in
    let left : get_or blocks p (0, 0) ≡ (h, 2 * block.1) = λ j. (h, halves.left j) in
    let right : get_or blocks (p + 1) (0, 0) ≡ (h, 2 * block.1 + 1) = λ j. (halves.right.0 j, (halves.right.1 ∙ ap (λ (n : ℕ). n + 1) halves.left) j) in
    let lf : first_in (get_or blocks p (0, 0)) ≡ first_in block = ap first_in left ∙ left-first block h halves.size in
    let re : end_of (get_or blocks (p + 1) (0, 0)) ≡ first_in block + 2 ^ h + 2 ^ h = ap end_of right ∙ ap (λ (f : ℕ). f + 2 ^ h) (right-first block h halves.size) in
    let s : 2 ^ block.0 ≡ 2 ^ h + 2 ^ h = size block h halves.size in
    let end : end_of block ≡ end_of (get_or blocks (p + 1) (0, 0)) = omega (arith, re, s) in
    record {
      apart = pairs-folded (λ (b c : ℕ × ℕ). end_of b ≤ first_in c) blocks p block within old.apart
          (λ n d l. (let a = old.apart n p d l (omega (arith, within)) in
          let e : first_in (get_or blocks p d) ≡ first_in block = ap first_in (get_or_default blocks p d (0, 0) (omega (arith, within))) ∙ lf in omega (arith, a, e)))
          (λ n d a l. (let b = old.apart (p + 1) n d a l in
          let e : end_of (get_or blocks (p + 1) d) ≡ end_of (get_or blocks (p + 1) (0, 0)) = ap end_of (get_or_default blocks (p + 1) d (0, 0) within) in omega (arith, b, e, end)));
      small = All-folded (λ (b : ℕ × ℕ). end_of b < 2 ^ 32) blocks p block old.small (let h = old.small (p + 1) (0, 0) within in omega (arith, h, end));
    }

-- later blocks begin later
pub firsts-rise : (blocks : List (ℕ × ℕ)) → AreBlocks blocks → (n m : ℕ) (d : ℕ × ℕ) → n < m → m < length blocks → first_in (get_or blocks n d) < first_in (get_or blocks m d)
firsts-rise blocks are n m d up within = (let a = are.apart n m d up within in let p = pow_pos (get_or blocks n d).0 in omega (arith, a, p))

module _ (blocks : List (ℕ × ℕ)) (block : ℕ × ℕ) (n : ℕ) (stand : StandAt blocks block n) where
  abbrev half : ℕ
  half = (get_or blocks n (0, 0)).0

  left-is : get_or blocks n (0, 0) ≡ (half, 2 * block.1)
  left-is = λ j. (half, stand.1.left j)

  right-is : get_or blocks (n + 1) (0, 0) ≡ (half, 2 * block.1 + 1)
  right-is = λ j. (stand.1.right.0 j, (stand.1.right.1 ∙ ap (λ (n : ℕ). n + 1) stand.1.left) j)

  -- where the halves of a block begin and end
  pub first-stands : first_in (get_or blocks n (0, 0)) ≡ first_in block
  first-stands = ap first_in left-is ∙ left-first block half stand.1.size

  pub middle-stands : first_in (get_or blocks (n + 1) (0, 0)) ≡ middle_in block
  middle-stands = ap first_in right-is ∙ sym (middle-first block half stand.1.size)

  pub end-stands : end_of (get_or blocks (n + 1) (0, 0)) ≡ end_of block
  end-stands =
      let e : end_of (get_or blocks (n + 1) (0, 0)) ≡ first_in block + 2 ^ half + 2 ^ half = ap end_of right-is ∙ ap (λ (f : ℕ). f + 2 ^ half) (right-first block half stand.1.size) in
      let s = size block half stand.1.size in
      omega (arith, e, s)
