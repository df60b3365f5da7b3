-- Which blocks have both halves among the blocks that are there, after a block more and after a fold.
use Rattle.std.proofs.Common.{◌≡◌, ◌≢◌, ◌+◌, ◌*◌, ◌^◌, ◌<◌, ◌≤◌, ℕ, zero, suc, List, [], ◌∷◌, length, get_or, take, drop, inl, inr, sym, refl, ap, subst, ◌∙◌, arith}
use Rattle.std.specs.Prelude.{◌⊎◌, Option, None, Some}
use Rattle.std.specs.List.{All, Contains, insert}
use Rattle.std.proofs.lemmas.Bool.{cases_eq, cases_order}
use Rattle.std.proofs.lemmas.Nat.{pow_pos}
use Rattle.std.proofs.lemmas.List.{get_or_default, take-append-drop}
use Rattle.std.proofs.lemmas.List.Elements.{Contains-append_cases, Contains-append_left, Contains-append_right}
use Rattle.dpl_board.specs.declared.tournament.Tournament.{Tournament}
use Rattle.dpl_board.specs.Tournaments.{IsTournament, leaf_in}
use Rattle.dpl_board.specs.Blocks.{AreApart, AreBlocks, AreReady, IsHalfAt, IsHalved, IsNoted, IsWholeAt, NotesWhole, end_of, first_in, middle_in}
use Rattle.dpl_board.proofs.Halves.{StandAt, block-fits, left-first, middle-first, side-by-side}
use Rattle.dpl_board.proofs.Keeping.{end-stands, first-stands, firsts-rise, folded, middle-stands, split-two}

module _ {X : Type 0} where
  uncons : (y : X) (ys : List X) (z : X) → Contains (y ∷ ys) z → (y ≡ z) ⊎ Contains ys z
  uncons y ys z (zero, l, is) = inl is
  uncons y ys z (suc k, l, is) = inr (k, omega (arith, l), is)

  cons : (y : X) (ys : List X) (z : X) → Contains ys z → Contains (y ∷ ys) z
  cons y ys z (k, l, is) = (suc k, omega (arith, l), is)

  at-head : (y : X) (ys : List X) → Contains (y ∷ ys) y
  at-head y ys = (zero, omega arith, refl)

  in-insert : (xs : List X) (at : ℕ) (y z : X) → Contains xs z → Contains (insert xs at y) z
  in-insert xs at y z there = elim (Contains-append_cases (take at xs) (drop at xs) z (subst (λ l. Contains l z) (sym (take-append-drop at xs)) there)) [
    | inl before ↦ Contains-append_left (take at xs) (y ∷ drop at xs) z before
    | inr after ↦ Contains-append_right (take at xs) (y ∷ drop at xs) z (cons y (drop at xs) z after)
  ]

  from-insert : (xs : List X) (at : ℕ) (y z : X) → Contains (insert xs at y) z → (y ≡ z) ⊎ Contains xs z
  from-insert xs at y z there = elim (Contains-append_cases (take at xs) (y ∷ drop at xs) z there) [
    | inl before ↦ inr (subst (λ l. Contains l z) (take-append-drop at xs) (Contains-append_left (take at xs) (drop at xs) z before))
    | inr here ↦ elim (uncons y (drop at xs) z here) [
      | inl is ↦ inl is
      | inr after ↦ inr (subst (λ l. Contains l z) (take-append-drop at xs) (Contains-append_right (take at xs) (drop at xs) z after))
    ]
  ]

  in-folded : (xs : List X) (p : ℕ) (y z d : X) → p + 1 < length xs → (get_or xs p d ≡ z → ⊥) → (get_or xs (p + 1) d ≡ z → ⊥) → Contains xs z → Contains (folded xs p y) z
  in-folded xs p y z d within left right there =
      let P = take p xs in
      let Q = drop (suc (suc p)) xs in
      let L = get_or xs p d in
      let R = get_or xs (p + 1) d in
      elim (Contains-append_cases P (L ∷ R ∷ Q) z (subst (λ l. Contains l z) (split-two xs p d within) there)) [
        | inl before ↦ Contains-append_left P (y ∷ Q) z before
        | inr here ↦ elim (uncons L (R ∷ Q) z here) [
          | inl is ↦ absurd (left is)
          | inr more ↦ elim (uncons R Q z more) [
            | inl is ↦ absurd (right is)
            | inr after ↦ Contains-append_right P (y ∷ Q) z (cons y Q z after)
          ]
        ]
      ]

  from-folded : (xs : List X) (p : ℕ) (y z d : X) → p + 1 < length xs → Contains (folded xs p y) z → (y ≡ z) ⊎ Contains xs z
  from-folded xs p y z d within there =
      let P = take p xs in
      let Q = drop (suc (suc p)) xs in
      let L = get_or xs p d in
      let R = get_or xs (p + 1) d in
      let back : List X → Type 0 = λ l. Contains l z in
      elim (Contains-append_cases P (y ∷ Q) z there) [
        | inl before ↦ inr (subst back (sym (split-two xs p d within)) (Contains-append_left P (L ∷ R ∷ Q) z before))
        | inr here ↦ elim (uncons y Q z here) [
          | inl is ↦ inl is
          | inr after ↦ inr (subst back (sym (split-two xs p d within)) (Contains-append_right P (L ∷ R ∷ Q) z (cons L (R ∷ Q) z (cons R Q z after))))
        ]
      ]

-- a block stands at one place
pub one-place : (blocks : List (ℕ × ℕ)) → AreApart blocks → (m n : ℕ) (d : ℕ × ℕ) → m < length blocks → n < length blocks
    → first_in (get_or blocks m d) ≡ first_in (get_or blocks n d) → m ≡ n
one-place blocks apart m n d l k same = elim (cases_order m n) [
  | inl e ↦ e
  | inr other ↦ elim other [
    | inl up ↦ absurd (let a = apart m n d up k in let p = pow_pos (get_or blocks m d).0 in omega (arith, a, p, same))
    | inr down ↦ absurd (let a = apart n m d down l in let p = pow_pos (get_or blocks n d).0 in omega (arith, a, p, same))
  ]
]

-- two blocks that begin at the same tile are one
same-first : (blocks : List (ℕ × ℕ)) (x y : ℕ × ℕ) → AreApart blocks → Contains blocks x → Contains blocks y → first_in x ≡ first_in y → x ≡ y
same-first blocks x y apart (m, m_in, m_is) (n, n_in, n_is) same =
    let there : get_or blocks n x ≡ y = get_or_default blocks n x y n_in ∙ n_is in
    let e : m ≡ n = one-place blocks apart m n x m_in n_in (ap first_in m_is ∙ (same ∙ sym (ap first_in there))) in
    sym m_is ∙ (ap (λ k. get_or blocks k x) e ∙ there)

same-pair : (a b c d : ℕ) → a ≡ c → b ≡ d → ◌≡◌ {A = ℕ × ℕ} (a, b) (c, d)
same-pair a b c d first second = λ j. (first j, second j)

-- blocks whose second halves begin at the same tile are one
halved-same : (blocks : List (ℕ × ℕ)) (b c : ℕ × ℕ) → AreApart blocks → IsHalved blocks b → IsHalved blocks c → middle_in b ≡ middle_in c → b ≡ c
halved-same blocks b c apart one two same =
    let e = same-first blocks (one.half, 2 * b.1 + 1) (two.half, 2 * c.1 + 1) apart one.right two.right
    (sym (middle-first b one.half one.size) ∙ (same ∙ middle-first c two.half two.size)) in
    let k : one.half ≡ two.half = ap (λ (x : ℕ × ℕ). x.0) e in
    let i : 2 * b.1 + 1 ≡ 2 * c.1 + 1 = ap (λ (x : ℕ × ℕ). x.1) e in
    same-pair b.0 b.1 c.0 c.1 (one.size ∙ (ap (λ (n : ℕ). n + 1) k ∙ sym two.size)) (omega (arith, i))

-- what is there ends within the tiles
in-within : (blocks : List (ℕ × ℕ)) (tiles : ℕ) (b : ℕ × ℕ) → All (λ (b : ℕ × ℕ). end_of b ≤ tiles) blocks → Contains blocks b → end_of b ≤ tiles
in-within blocks tiles b within (k, l, is) = subst (λ (c : ℕ × ℕ). end_of c ≤ tiles) is (within k b l)

pub middle-within : (blocks : List (ℕ × ℕ)) (tiles : ℕ) (b : ℕ × ℕ) → All (λ (b : ℕ × ℕ). end_of b ≤ tiles) blocks → IsHalved blocks b → middle_in b < tiles
middle-within blocks tiles b within halved =
    let m = middle-first b halved.half halved.size in
    let p = pow_pos halved.half in
    let e = in-within blocks tiles (halved.half, 2 * b.1 + 1) within halved.right in
    omega (arith, m, p, e)

-- halves that stand side by side are there
pub halved-stand : (blocks : List (ℕ × ℕ)) (block : ℕ × ℕ) (n : ℕ) → StandAt blocks block n → IsHalved blocks block
halved-stand blocks block n (within, halves) =
    let h = (get_or blocks n (0, 0)).0 in
    let left : get_or blocks n (0, 0) ≡ (h, 2 * block.1) = λ j. (h, halves.left j) in
    let right : get_or blocks (n + 1) (0, 0) ≡ (h, 2 * block.1 + 1) = λ j. (halves.right.0 j, (halves.right.1 ∙ ap (λ (n : ℕ). n + 1) halves.left) j) in
    let l : n < length blocks = omega (arith, within) in
    record {
      half = h;
      size = halves.size;
      left = (n, l, get_or_default blocks n (h, 2 * block.1) (0, 0) l ∙ left);
      right = (n + 1, within, get_or_default blocks (n + 1) (h, 2 * block.1 + 1) (0, 0) within ∙ right);
    }

-- what is known of a block whose halves are there
module _ (blocks : List (ℕ × ℕ)) (are : AreBlocks blocks) (block : ℕ × ℕ) (halved : IsHalved blocks block) where
  pub stands : (n : ℕ) × StandAt blocks block n
  stands = side-by-side blocks block halved.half are.apart halved.size halved.left halved.right

  pub halved-small : end_of block < 2 ^ 32
  halved-small = let (n, stand) = stands in let e = end-stands blocks block n stand in let s = are.small (n + 1) (0, 0) stand.0 in omega (arith, e, s)

  pub halved-size : (0 < block.0) × (block.0 ≤ 32)
  halved-size =
      let (n, stand) = stands in
      let s = stand.1.size in
      let f = block-fits blocks n (0, 0) are (let l = stand.0 in omega (arith, l)) in
      (omega (arith, s), omega (arith, s, f))

  pub halved-first : first_in block < middle_in block
  halved-first =
      let (n, stand) = stands in
      let a = first-stands blocks block n stand in
      let b = middle-stands blocks block n stand in
      let u = firsts-rise blocks are n (n + 1) (0, 0) (omega arith) stand.0 in
      omega (arith, a, b, u)

-- the half of a block that begins at a tile
half-there : (blocks : List (ℕ × ℕ)) (b : ℕ × ℕ) (tile : ℕ) → (halved : IsHalved blocks b) → IsHalfAt tile b
    → (i : ℕ) × ((i ≡ 2 * b.1) ⊎ (i ≡ 2 * b.1 + 1)) × Contains blocks (halved.half, i) × (first_in (halved.half, i) ≡ tile)
half-there blocks b tile halved (inl is) = (2 * b.1, inl refl, halved.left, left-first b halved.half halved.size ∙ sym is)
half-there blocks b tile halved (inr is) = (2 * b.1 + 1, inr refl, halved.right, sym (middle-first b halved.half halved.size) ∙ sym is)

same-whole : (a c i j : ℕ) → (i ≡ 2 * a) ⊎ (i ≡ 2 * a + 1) → (j ≡ 2 * c) ⊎ (j ≡ 2 * c + 1) → i ≡ j → a ≡ c
same-whole a c i j (inl e) (inl f) same = omega (arith, e, f, same)
same-whole a c i j (inl e) (inr f) same = omega (arith, e, f, same)
same-whole a c i j (inr e) (inl f) same = omega (arith, e, f, same)
same-whole a c i j (inr e) (inr f) same = omega (arith, e, f, same)

-- the one that begins at a tile is a half of one block
one-whole : (blocks : List (ℕ × ℕ)) (tile : ℕ) (b c : ℕ × ℕ) → AreApart blocks → IsHalved blocks b → IsHalved blocks c → IsHalfAt tile b → IsHalfAt tile c → b ≡ c
one-whole blocks tile b c apart one two at to =
    let h = half-there blocks b tile one at in
    let k = half-there blocks c tile two to in
    let same : (one.half, h.0) ≡ (two.half, k.0) = same-first blocks (one.half, h.0) (two.half, k.0) apart h.2 k.2 (h.3 ∙ sym k.3) in
    let size : one.half ≡ two.half = ap (λ (x : ℕ × ℕ). x.0) same in
    same-pair b.0 b.1 c.0 c.1 (one.size ∙ (ap (λ (n : ℕ). n + 1) size ∙ sym two.size)) (same-whole b.1 c.1 h.0 k.0 h.1 k.1 (ap (λ (x : ℕ × ℕ). x.1) same))

-- what is noted at a tile where all else is noted
noted : (blocks : List (ℕ × ℕ)) (tile : ℕ) (old new : Tournament) → AreBlocks blocks → All (λ (b : ℕ × ℕ). end_of b ≤ old.leaves) blocks → IsTournament old
    → ((leaf : ℕ) (b : ℕ × ℕ) → leaf < old.leaves → leaf_in old leaf ≡ Some b → (leaf ≡ middle_in b) × IsHalved blocks b)
    → ((b : ℕ × ℕ) → IsHalved blocks b → (leaf_in old (middle_in b) ≡ Some b) ⊎ IsHalfAt tile b)
    → (found : Option (ℕ × ℕ)) → IsWholeAt blocks tile found → NotesWhole found old new → AreReady blocks new
noted blocks tile old new are within tree sound each None none is = subst (AreReady blocks) (sym is) (record {
  tree = tree;
  sound = sound;
  each = λ b halved. (
    middle-within blocks old.leaves b within halved,
    elim (each b halved) [
      | inl there ↦ there
      | inr at ↦ absurd (none b halved at)
    ],
  );
})
noted blocks tile old new are within tree sound each (Some w) (half, at) is = record {
  tree = is.tree;
  sound = λ leaf b l there. elim (cases_eq leaf (middle_in w)) [
    | inl same ↦
        let e : w ≡ b = some-same w b (sym is.leaf ∙ (ap (leaf_in new) (sym same) ∙ there)) in (
          same ∙ ap middle_in e,
          subst (IsHalved blocks) e half,
        )
    | inr other ↦ sound leaf b (subst (λ (n : ℕ). leaf < n) is.leaves l) (sym (is.others leaf other) ∙ there)
  ];
  each = λ b halved. (
    subst (λ (n : ℕ). middle_in b < n) (sym is.leaves) (middle-within blocks old.leaves b within halved),
    elim (each b halved) [
      | inl there ↦ elim (cases_eq (middle_in b) (middle_in w)) [
        | inl same ↦ here b (halved-same blocks w b are.apart half halved (sym same))
        | inr other ↦ is.others (middle_in b) other ∙ there
      ]
      | inr to ↦ here b (one-whole blocks tile w b are.apart half halved at to)
    ],
  );
}
  where
    some-same : (b c : ℕ × ℕ) → Some b ≡ Some c → b ≡ c
    some-same b c e = ap (λ (o : Option (ℕ × ℕ)). first_of b o) e
      where
        first_of : ℕ × ℕ → Option (ℕ × ℕ) → ℕ × ℕ
        first_of d None = d
        first_of d (Some x) = x

    here : (b : ℕ × ℕ) → w ≡ b → leaf_in new (middle_in b) ≡ Some b
    here b e = subst (λ (c : ℕ × ℕ). leaf_in new (middle_in c) ≡ Some c) e is.leaf

pub noted-leaves : (old new : Tournament) (found : Option (ℕ × ℕ)) → NotesWhole found old new → new.leaves ≡ old.leaves
noted-leaves old new None is = ap (λ (t : Tournament). t.leaves) is
noted-leaves old new (Some block) is = is.leaves

-- a block of one tile more
pub ready-more : (B : List (ℕ × ℕ)) (at t : ℕ) (old new : Tournament) → at ≤ length B → AreBlocks (insert B at (0, t))
    → All (λ (b : ℕ × ℕ). end_of b ≤ old.leaves) (insert B at (0, t)) → AreReady B old → IsNoted (insert B at (0, t)) t old new → AreReady (insert B at (0, t)) new
ready-more B at t old new place are within ready is =
    noted (insert B at (0, t)) t old new are within ready.tree
    (λ leaf b l there. (let s = ready.sound leaf b l there in (s.0, more b s.1)))
    each is.0 is.1 is.2
  where
    more : (b : ℕ × ℕ) → IsHalved B b → IsHalved (insert B at (0, t)) b
    more b halved = record {
      half = halved.half;
      size = halved.size;
      left = in-insert B at (0, t) (halved.half, 2 * b.1) halved.left;
      right = in-insert B at (0, t) (halved.half, 2 * b.1 + 1) halved.right;
    }

    first : t ≡ first_in (0, t)
    first = omega arith

    each : (b : ℕ × ℕ) → IsHalved (insert B at (0, t)) b → (leaf_in old (middle_in b) ≡ Some b) ⊎ IsHalfAt t b
    each b halved = elim (from-insert B at (0, t) (halved.half, 2 * b.1) halved.left) [
      | inl is ↦ inr (inl (first ∙ (ap first_in is ∙ left-first b halved.half halved.size)))
      | inr left ↦ elim (from-insert B at (0, t) (halved.half, 2 * b.1 + 1) halved.right) [
        | inl is ↦ inr (inr (first ∙ (ap first_in is ∙ sym (middle-first b halved.half halved.size))))
        | inr right ↦ inl (ready.each b (record { half = halved.half; size = halved.size; left = left; right = right })).1
      ]
    ]

at-folded : {X : Type 0} (xs : List X) (p : ℕ) (y d : X) → p + 1 < length xs → get_or (folded xs p y) p d ≡ y
at-folded [] p y d within = absurd (omega (arith, within))
at-folded (x ∷ xs) zero y d within = refl
at-folded (x ∷ xs) (suc p) y d within = at-folded xs p y d (omega (arith, within))

folded-within : {X : Type 0} (xs : List X) (p : ℕ) (y : X) → p + 1 < length xs → p < length (folded xs p y)
folded-within [] p y within = absurd (omega (arith, within))
folded-within (x ∷ xs) zero y within = omega arith
folded-within (x ∷ xs) (suc p) y within = (let r = folded-within xs p y (omega (arith, within)) in omega (arith, r))

-- a block in place of its halves
pub ready-folded : (B : List (ℕ × ℕ)) (n : ℕ) (block : ℕ × ℕ) (old cleared new : Tournament) → AreBlocks B → StandAt B block n → AreBlocks (folded B n block)
    → All (λ (b : ℕ × ℕ). end_of b ≤ old.leaves) (folded B n block) → AreReady B old → IsTournament cleared → cleared.leaves ≡ old.leaves
    → leaf_in cleared (middle_in block) ≡ None → ((leaf : ℕ) → leaf ≢ middle_in block → leaf_in cleared leaf ≡ leaf_in old leaf)
    → IsNoted (folded B n block) (first_in block) cleared new → AreReady (folded B n block) new
ready-folded B n block old cleared new were stand are within ready tree leaves gone others is =
    noted (folded B n block) (first_in block) cleared new are (subst (λ (k : ℕ). All (λ (b : ℕ × ℕ). end_of b ≤ k) (folded B n block)) (sym leaves) within) tree sound each is.0 is.1 is.2
  where
    none-some : {b : ℕ × ℕ} (x : Option (ℕ × ℕ)) → x ≡ None → x ≡ Some b → ⊥
    none-some None e f = cc
    none-some (Some x) e f = cc

    still : (b : ℕ × ℕ) → (block ≡ b → ⊥) → IsHalved B b → IsHalved (folded B n block) b
    still b apart halved =
        let s = halved.size in
        let t = stand.1.size in
        let f = stand.1.left in
        let g = stand.1.right.1 in record {
          half = halved.half;
          size = halved.size;
          left = in-folded B n block (halved.half, 2 * b.1) (0, 0) stand.0
              (λ e. apart (let k = ap (λ (x : ℕ × ℕ). x.0) e in let i = ap (λ (x : ℕ × ℕ). x.1) e in
              same-pair block.0 block.1 b.0 b.1 (omega (arith, k, s, t)) (omega (arith, i, f))))
              (λ e. (let i = ap (λ (x : ℕ × ℕ). x.1) e in omega (arith, i, f, g))) halved.left;
          right = in-folded B n block (halved.half, 2 * b.1 + 1) (0, 0) stand.0
              (λ e. (let i = ap (λ (x : ℕ × ℕ). x.1) e in omega (arith, i, f)))
              (λ e. apart (let k = ap (λ (x : ℕ × ℕ). x.0) e in let i = ap (λ (x : ℕ × ℕ). x.1) e in let r = stand.1.right.0 in
              same-pair block.0 block.1 b.0 b.1 (omega (arith, k, s, t, r)) (omega (arith, i, f, g)))) halved.right;
        }

    sound : (leaf : ℕ) (b : ℕ × ℕ) → leaf < cleared.leaves → leaf_in cleared leaf ≡ Some b → (leaf ≡ middle_in b) × IsHalved (folded B n block) b
    sound leaf b l there = elim (cases_eq leaf (middle_in block)) [
      | inl same ↦ absurd (none-some (leaf_in cleared leaf) (ap (leaf_in cleared) same ∙ gone) there)
      | inr other ↦
          let s = ready.sound leaf b (subst (λ (k : ℕ). leaf < k) leaves l) (sym (others leaf other) ∙ there) in
          (s.0, still b (λ e. other (s.0 ∙ sym (ap middle_in e))) s.1)
    ]

    here : n < length (folded B n block)
    here = folded-within B n block stand.0

    -- the block itself has no halves any more
    whole : (b : ℕ × ℕ) → b ≡ block → IsHalved (folded B n block) b → ⊥
    whole b e halved =
        let there : Contains (folded B n block) block = (n, here, at-folded B n block block stand.0) in
        let same : (halved.half, 2 * b.1) ≡ block = same-first (folded B n block) (halved.half, 2 * b.1) block are.apart halved.left there
        (left-first b halved.half halved.size ∙ ap first_in e) in
        let k : halved.half ≡ block.0 = ap (λ (x : ℕ × ℕ). x.0) same in
        let s = halved.size in
        let z : b.0 ≡ block.0 = ap (λ (x : ℕ × ℕ). x.0) e in
        omega (arith, k, s, z)

    each : (b : ℕ × ℕ) → IsHalved (folded B n block) b → (leaf_in cleared (middle_in b) ≡ Some b) ⊎ IsHalfAt (first_in block) b
    each b halved = elim (from-folded B n block (halved.half, 2 * b.1) (0, 0) stand.0 halved.left) [
      | inl is ↦ inr (inl (ap first_in is ∙ left-first b halved.half halved.size))
      | inr left ↦ elim (from-folded B n block (halved.half, 2 * b.1 + 1) (0, 0) stand.0 halved.right) [
        | inl is ↦ inr (inr (ap first_in is ∙ sym (middle-first b halved.half halved.size)))
        | inr right ↦
            let was : IsHalved B b = record { half = halved.half; size = halved.size; left = left; right = right } in
            elim (cases_eq (middle_in b) (middle_in block)) [
              | inl same ↦ absurd (whole b (halved-same B b block were.apart was (halved-stand B block n stand) same) halved)
              | inr other ↦ inl (others (middle_in b) other ∙ (ready.each b was).1)
            ]
      ]
    ]
