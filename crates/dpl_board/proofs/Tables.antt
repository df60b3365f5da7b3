-- Tables of where blocks begin, with one block more and with one in place of its halves.
use Rattle.std.proofs.Common.{◌≡◌, ◌≢◌, ◌+◌, ◌-◌, ◌*◌, ◌/◌, ◌^◌, ◌<◌, ◌≤◌, ◌∙◌, ℕ, suc, List, [], ◌∷◌, ◌++◌, append-nil, length, map, take, get_or, set, inl, inr, refl, sym, ap, subst, arith}
use Rattle.std.specs.Prelude.{◌⊎◌, Option, None, Some}
use Rattle.std.specs.List.{insert, remove}
use Rattle.std.proofs.lemmas.Bool.{cases_eq, cases_lt}
use Rattle.std.proofs.lemmas.Nat.{shl-shr, shr-shr, shr_le}
use Rattle.std.proofs.lemmas.List.{get_or-set_other, get_or-set_same, length-set, length-take-le, take-set-le}
use Rattle.dpl_board.specs.declared.entry.Entry.{Entry}
use Rattle.dpl_board.specs.Sheets.{poster_in}
use Rattle.dpl_board.specs.Starts.{AreAligned, blocks_from, blocks_of}
use Rattle.dpl_board.specs.Blocks.{AreBlocks, ArePostedTiles, IsHalfAt, IsHalved, IsWholeAt, end_of, first_in, middle_in, tiles_at}
use Rattle.dpl_board.proofs.Halves.{StandAt, left-first, middle-first, size-fits}
use Rattle.dpl_board.proofs.Keeping.{begins-behind, first-stands, folded, is-folded, middle-stands}
use Rattle.dpl_board.proofs.Noting.{halved-first, one-place, stands}
use Rattle.dpl_board.proofs.Starts.{at-tile, begins-there, blocks-few, blocks-next, place_of, starts-at, starts-less, starts-more, starts-other, there-begins}

-- a block that begins at a multiple of its size
pub aligned-set : (starts : List (Option ℕ)) (t k : ℕ) → t < length starts → t / 2 ^ k * 2 ^ k ≡ t → AreAligned starts → AreAligned (set starts t (Some k))
aligned-set starts t k within is aligned i h at = elim (cases_eq i t) [
  | inl same ↦
      let e : Some k ≡ Some h = sym (get_or-set_same starts t (Some k) None within) ∙ (ap (λ (n : ℕ). get_or (set starts t (Some k)) n None) (sym same) ∙ at) in
      let f : k ≡ h = cc in
      subst (λ (n : ℕ). n / 2 ^ h * 2 ^ h ≡ n) (sym same) (subst (λ (m : ℕ). t / 2 ^ m * 2 ^ m ≡ t) f is)
  | inr other ↦ aligned i h (sym (get_or-set_other starts t i (Some k) None other) ∙ at)
]

pub aligned-clear : (starts : List (Option ℕ)) (t : ℕ) → t < length starts → AreAligned starts → AreAligned (set starts t None)
aligned-clear starts t within aligned i h at = elim (cases_eq i t) [
  | inl same ↦ absurd (
      let e : None ≡ Some h = sym (get_or-set_same starts t None None within) ∙ (ap (λ (n : ℕ). get_or (set starts t None) n None) (sym same) ∙ at) in
      cc
      )
  | inr other ↦ aligned i h (sym (get_or-set_other starts t i None None other) ∙ at)
]

-- a block of one tile more, where the tile isn't posted
module _ (starts : List (Option ℕ)) (es : List Entry) (t : ℕ) (aligned : AreAligned starts)
    (posted : ArePostedTiles (map tiles_at (blocks_of starts)) es) (none : poster_in t es ≡ None) where
  bare-by : (start : Option ℕ) → get_or starts t None ≡ start → get_or starts t None ≡ None
  bare-by None is = is
  bare-by (Some k) is = absurd (
      let (n, l, at) = at-tile starts t k is in
      let f : first_in (get_or (blocks_of starts) n (k, t / 2 ^ k)) ≡ t = ap first_in at ∙ aligned t k is in
      let past = begins-behind (blocks_of starts) es t posted none n (k, t / 2 ^ k) l (omega (arith, f)) in
      omega (arith, past, f)
      )

  bare : get_or starts t None ≡ None
  bare = bare-by (get_or starts t None) refl

  pub table-more : t < length starts → blocks_of (set starts t (Some 0)) ≡ insert (blocks_of starts) (place_of 0 t starts) (0, t)
  table-more within =
      let e : (0 + t) / 2 ^ 0 ≡ t = omega arith in
      starts-more 0 t 0 starts within bare ∙ ap (λ (i : ℕ). insert (blocks_of starts) (place_of 0 t starts) (0, i)) e

-- a block in place of its halves
module _ (starts : List (Option ℕ)) (aligned : AreAligned starts) (are : AreBlocks (blocks_of starts)) (block : ℕ × ℕ)
    (halved : IsHalved (blocks_of starts) block) where
  abbrev B : List (ℕ × ℕ)
  B = blocks_of starts

  abbrev h : ℕ
  h = halved.half

  left-at : first_in (h, 2 * block.1) ≡ first_in block
  left-at = left-first block h halved.size

  right-at : first_in (h, 2 * block.1 + 1) ≡ middle_in block
  right-at = sym (middle-first block h halved.size)

  left-begins : get_or starts (first_in block) None ≡ Some h
  left-begins = ap (λ (n : ℕ). get_or starts n None) (sym left-at) ∙ (begins-there starts (h, 2 * block.1) aligned halved.left).1

  right-begins : get_or starts (middle_in block) None ≡ Some h
  right-begins = ap (λ (n : ℕ). get_or starts n None) (sym right-at) ∙ (begins-there starts (h, 2 * block.1 + 1) aligned halved.right).1

  pub left-within : first_in block < length starts
  left-within = subst (λ (n : ℕ). n < length starts) left-at (begins-there starts (h, 2 * block.1) aligned halved.left).0

  pub right-within : middle_in block < length starts
  right-within = subst (λ (n : ℕ). n < length starts) right-at (begins-there starts (h, 2 * block.1 + 1) aligned halved.right).0

  up : first_in block < middle_in block
  up = halved-first B are block halved

  -- the place in the list of one that begins where the block of some other place does
  place-is : (i n : ℕ) → get_or starts i None ≡ Some h → i < length starts → n < length B → first_in (get_or B n (0, 0)) ≡ i → place_of 0 i starts ≡ n
  place-is i n is within l at =
      let r = starts-at 0 i h (0, 0) starts within is in
      let e : 0 + i ≡ i = omega arith in
      let f : first_in (get_or B (place_of 0 i starts) (0, 0)) ≡ i =
      ap first_in r.1 ∙ (ap (λ (m : ℕ). m / 2 ^ h * 2 ^ h) e ∙ aligned i h is) in
      one-place B are.apart (place_of 0 i starts) n (0, 0) r.0 l (f ∙ sym at)

  abbrev n : ℕ
  n = (stands B are block halved).0

  stand : StandAt B block n
  stand = (stands B are block halved).1

  left-place : place_of 0 (first_in block) starts ≡ n
  left-place = place-is (first_in block) n left-begins left-within (let s = stand.0 in omega (arith, s)) (first-stands B block n stand)

  right-place : place_of 0 (middle_in block) starts ≡ n + 1
  right-place = place-is (middle_in block) (n + 1) right-begins right-within stand.0 (middle-stands B block n stand)

  pub table-folded : blocks_of (set (set starts (middle_in block) None) (first_in block) (Some block.0)) ≡ folded B n block
  table-folded =
      let m = middle_in block in
      let f = first_in block in
      let S = set starts m None in
      let apart : f ≢ m = λ e. (let u = up in omega (arith, u, e)) in
      let within : f < length S = subst (λ (k : ℕ). f < k) (sym (length-set starts m None)) left-within in
      let is : get_or S f None ≡ Some h = get_or-set_other starts m f None None apart ∙ left-begins in
      let low : f ≤ m = (let u = up in omega (arith, u)) in
      let place : place_of 0 f S ≡ n = ap (λ (l : List (Option ℕ)). length (blocks_from 0 l)) (take-set-le f starts m None low) ∙ left-place in
      let less : blocks_of S ≡ remove B (n + 1) = starts-less 0 m h starts right-within right-begins ∙ ap (remove B) right-place in
      let e : (0 + f) / 2 ^ block.0 ≡ block.1 = (let z : 0 + f ≡ f = omega arith in ap (λ (k : ℕ). k / 2 ^ block.0) z ∙ shl-shr block.1 block.0) in
      let pair : ◌≡◌ {A = ℕ × ℕ} (block.0, (0 + f) / 2 ^ block.0) block = λ j. (block.0, e j) in
      starts-other 0 f h block.0 S within is
      ∙ ((λ j. set (less j) (place j) (pair j)) ∙ is-folded B n block (0, 0) stand.0)

  pub aligned-folded : AreAligned (set (set starts (middle_in block) None) (first_in block) (Some block.0))
  aligned-folded =
      let S = set starts (middle_in block) None in
      let within : first_in block < length S = subst (λ (k : ℕ). first_in block < k) (sym (length-set starts (middle_in block) None)) left-within in
      aligned-set S (first_in block) block.0 within (ap (λ (i : ℕ). i * 2 ^ block.0) (shl-shr block.1 block.0))
      (aligned-clear starts (middle_in block) right-within aligned)

-- the block of which a half of 2^k tiles begins at a tile
pub half-of-whole : (b : ℕ × ℕ) (tile k : ℕ) → IsHalfAt tile b → b.0 ≡ k + 1 → tile / 2 ^ (k + 1) ≡ b.1
half-of-whole b tile k (inl is) size =
    ap (λ (n : ℕ). n / 2 ^ (k + 1)) (is ∙ ap (λ (m : ℕ). b.1 * 2 ^ m) size) ∙ shl-shr b.1 (k + 1)
half-of-whole b tile k (inr is) size =
    let e : b.0 - 1 ≡ k = omega (arith, size) in
    let f : tile ≡ (2 * b.1 + 1) * 2 ^ k = is ∙ ap (λ (m : ℕ). (2 * b.1 + 1) * 2 ^ m) e in
    let g : (2 * b.1 + 1) / 2 ^ 1 ≡ b.1 = omega arith in
    sym (shr-shr tile k 1) ∙ (ap (λ (n : ℕ). n / 2 ^ k / 2 ^ 1) f ∙ (ap (λ (n : ℕ). n / 2 ^ 1) (shl-shr (2 * b.1 + 1) k) ∙ g))

pub whole-of-half : (tile k : ℕ) → tile / 2 ^ k * 2 ^ k ≡ tile → IsHalfAt tile (k + 1, tile / 2 ^ (k + 1))
whole-of-half tile k is =
    let i = tile / 2 ^ k in
    let w = tile / 2 ^ (k + 1) in
    let half : w ≡ i / 2 ^ 1 = sym (shr-shr tile k 1) in
    let both : (i ≡ 2 * w) ⊎ (i ≡ 2 * w + 1) = elim (cases_lt (2 * w) i) [
      | inl odd ↦ inr (omega (arith, odd, half))
      | inr even ↦ inl (omega (arith, even, half))
    ] in
    elim both [
      | inl e ↦ inl (sym is ∙ (ap (λ (n : ℕ). n * 2 ^ k) e ∙ left-first (k + 1, w) k refl))
      | inr e ↦ inr (sym is ∙ (ap (λ (n : ℕ). n * 2 ^ k) e ∙ sym (middle-first (k + 1, w) k refl)))
    ]

-- what a table tells of the block of which a half begins at a tile
module _ (starts : List (Option ℕ)) (tile : ℕ) (aligned : AreAligned starts) where
  -- the half there is as large as the one that begins there
  half-begins : (b : ℕ × ℕ) → (halved : IsHalved (blocks_of starts) b) → IsHalfAt tile b → get_or starts tile None ≡ Some halved.half
  half-begins b halved (inl is) =
      ap (λ (n : ℕ). get_or starts n None) (is ∙ sym (left-first b halved.half halved.size)) ∙ (begins-there starts (halved.half, 2 * b.1) aligned halved.left).1
  half-begins b halved (inr is) =
      ap (λ (n : ℕ). get_or starts n None) (is ∙ middle-first b halved.half halved.size) ∙ (begins-there starts (halved.half, 2 * b.1 + 1) aligned halved.right).1

  pub no-start : get_or starts tile None ≡ None → IsWholeAt (blocks_of starts) tile None
  no-start none = λ b halved at. absurd (let e = half-begins b halved at in cc)

  pub whole-there : (k : ℕ) → get_or starts tile None ≡ Some k → get_or starts (first_in (k + 1, tile / 2 ^ (k + 1))) None ≡ Some k
      → get_or starts (middle_in (k + 1, tile / 2 ^ (k + 1))) None ≡ Some k → IsWholeAt (blocks_of starts) tile (Some (k + 1, tile / 2 ^ (k + 1)))
  whole-there k is left right =
      let w : ℕ × ℕ = (k + 1, tile / 2 ^ (k + 1)) in (
        record {
          half = k;
          size = refl;
          left = there-begins starts (k, 2 * w.1) (ap (λ (n : ℕ). get_or starts n None) (left-first w k refl) ∙ left);
          right = there-begins starts (k, 2 * w.1 + 1) (ap (λ (n : ℕ). get_or starts n None) (sym (middle-first w k refl)) ∙ right);
        },
        whole-of-half tile k (aligned tile k is),
      )

  pub no-whole : (k : ℕ) → get_or starts tile None ≡ Some k
      → (get_or starts (first_in (k + 1, tile / 2 ^ (k + 1))) None ≡ Some k → get_or starts (middle_in (k + 1, tile / 2 ^ (k + 1))) None ≡ Some k → ⊥)
      → IsWholeAt (blocks_of starts) tile None
  no-whole k is none = λ b halved at.
      (let e : Some halved.half ≡ Some k = sym (half-begins b halved at) ∙ is in
      let same : halved.half ≡ k = cc in
      let size : b.0 ≡ k + 1 = halved.size ∙ ap (λ (n : ℕ). n + 1) same in
      let i : tile / 2 ^ (k + 1) ≡ b.1 = half-of-whole b tile k at size in
      let whole : ◌≡◌ {A = ℕ × ℕ} (k + 1, tile / 2 ^ (k + 1)) b = λ j. (sym size j, i j) in
      let left : get_or starts (first_in b) None ≡ Some k = ap (λ (n : ℕ). get_or starts n None) (sym (left-first b halved.half halved.size))
      ∙ ((begins-there starts (halved.half, 2 * b.1) aligned halved.left).1 ∙ e) in
      let right : get_or starts (middle_in b) None ≡ Some k = ap (λ (n : ℕ). get_or starts n None) (middle-first b halved.half halved.size)
      ∙ ((begins-there starts (halved.half, 2 * b.1 + 1) aligned halved.right).1 ∙ e) in
      none (ap (λ (c : ℕ × ℕ). get_or starts (first_in c) None) whole ∙ left) (ap (λ (c : ℕ × ℕ). get_or starts (middle_in c) None) whole ∙ right))

-- what a table of blocks of 32-bit numbers has
pub start-size : (starts : List (Option ℕ)) (t k : ℕ) → AreBlocks (blocks_of starts) → get_or starts t None ≡ Some k → (k < 32) × (t / 2 ^ k < 2 ^ 32)
start-size starts t k are is =
    let (n, l, at) = at-tile starts t k is in
    let small : end_of (k, t / 2 ^ k) < 2 ^ 32 = subst (λ (b : ℕ × ℕ). end_of b < 2 ^ 32) at (are.small n (k, t / 2 ^ k) l) in
    let low = shr_le (t / 2 ^ k * 2 ^ k) k in
    let same = shl-shr (t / 2 ^ k) k in
    (size-fits (k, t / 2 ^ k) small, omega (arith, small, low, same))

-- the blocks of one tile more
pub next-none : (starts : List (Option ℕ)) (n : ℕ) → n < length starts → get_or starts n None ≡ None → blocks_of (take (n + 1) starts) ≡ blocks_of (take n starts)
next-none starts n within is =
    let e : n + 1 ≡ suc n = omega arith in
    ap (λ (m : ℕ). blocks_of (take m starts)) e ∙ (blocks-next 0 n starts within
    ∙ (ap (λ (s : Option ℕ). blocks_of (take n starts) ++ blocks_from (0 + n) (s ∷ [])) is ∙ append-nil (blocks_of (take n starts))))

pub next-some : (starts : List (Option ℕ)) (n k : ℕ) → n < length starts → get_or starts n None ≡ Some k
    → blocks_of (take (n + 1) starts) ≡ blocks_of (take n starts) ++ (k, n / 2 ^ k) ∷ []
next-some starts n k within is =
    let e : n + 1 ≡ suc n = omega arith in
    let f : 0 + n ≡ n = omega arith in
    ap (λ (m : ℕ). blocks_of (take m starts)) e ∙ (blocks-next 0 n starts within
    ∙ (ap (λ (s : Option ℕ). blocks_of (take n starts) ++ blocks_from (0 + n) (s ∷ [])) is
    ∙ ap (λ (m : ℕ). blocks_of (take n starts) ++ (k, m / 2 ^ k) ∷ []) f))

-- there are at most as many blocks as tiles before a tile
pub few-before : (starts : List (Option ℕ)) (n : ℕ) → n ≤ length starts → length (blocks_of (take n starts)) ≤ n
few-before starts n within = (let a = blocks-few 0 (take n starts) in let b = length-take-le n starts within in omega (arith, a, b))
