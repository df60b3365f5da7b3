-- Blocks of tiles and their halves.
use Rattle.std.proofs.Common.{◌≡◌, ◌+◌, ◌-◌, ◌*◌, ◌/◌, ◌^◌, ◌<◌, ◌≤◌, ℕ, zero, suc, List, ◌∷◌, ◌++◌, length, map, get_or, inl, inr, sym, ap, ◌∙◌, arith}
use Rattle.std.specs.List.{Contains, range_with_len}
use Rattle.std.proofs.lemmas.Bool.{cases_lt, cases_order}
use Rattle.std.proofs.lemmas.Nat.{pow-add, pow_pos, pow_below, shl-shr}
use Rattle.std.proofs.lemmas.List.{get_or-map, get_or_default, length-map}
use Rattle.std.proofs.lemmas.List.FromFn.{length-range_with_len, get_or-range_with_len}
use Rattle.dpl_board.specs.Blocks.{AreApart, AreBlocks, end_of, first_in, middle_in, tiles_at}

-- these two are the halves of the block, the first one first
pub record AreHalves (block one other : ℕ × ℕ) : Type 0 where
  pub size : block.0 ≡ one.0 + 1
  pub left : one.1 ≡ 2 * block.1
  pub right : (other.0 ≡ one.0) × (other.1 ≡ one.1 + 1)

-- the halves of the block stand at this place and behind it
abbrev pub StandAt : List (ℕ × ℕ) → ℕ × ℕ → ℕ → Type 0
StandAt blocks block n = (n + 1 < length blocks) × AreHalves block (get_or blocks n (0, 0)) (get_or blocks (n + 1) (0, 0))

pub pow-more : (k : ℕ) → 2 ^ (k + 1) ≡ 2 ^ k + 2 ^ k
pow-more k = omega (arith, pow-add 2 k 1)

twice : (i s : ℕ) → (2 * i) * s ≡ i * (s + s)
twice i s = grind arith

next : (i s : ℕ) → (2 * i + 1) * s ≡ (2 * i) * s + s
next i s = grind arith

range-append : (a n k : ℕ) → range_with_len a (n + k) ≡ range_with_len a n ++ range_with_len (a + n) k
range-append a zero k =
    let e : zero + k ≡ k = omega arith in
    let f : a ≡ a + zero = omega arith in
    ap (range_with_len a) e ∙ ap (λ (b : ℕ). range_with_len b k) f
range-append a (suc n) k =
    let e : suc n + k ≡ suc (n + k) = omega arith in
    let f : a + 1 + n ≡ a + suc n = omega arith in
    ap (range_with_len a) e ∙ ap (λ (l : List ℕ). a ∷ l) (range-append (a + 1) n k ∙ ap (λ (b : ℕ). range_with_len (a + 1) n ++ range_with_len b k) f)

-- a block of 32-bit numbers is small
pub size-fits : (b : ℕ × ℕ) → end_of b < 2 ^ 32 → b.0 < 32
size-fits b fits = elim (cases_lt b.0 32) [
  | inl l ↦ l
  | inr past ↦ absurd (
      let more : 2 ^ 31 < 2 ^ b.0 = pow_below 31 b.0 (omega (arith, past)) in
      let whole : 2 ^ 32 ≤ 2 ^ b.0 = large b.0 past in
      omega (arith, fits, whole)
      )
]
  where
    large : (k : ℕ) → 32 ≤ k → 2 ^ 32 ≤ 2 ^ k
    large k past = elim (cases_lt 32 k) [
      | inl l ↦ (let h = pow_below 32 k l in omega (arith, h))
      | inr same ↦ (let e : 32 ≡ k = omega (arith, past, same) in let h : 2 ^ 32 ≡ 2 ^ k = ap (λ (n : ℕ). 2 ^ n) e in omega (arith, h))
    ]

pub block-fits : (blocks : List (ℕ × ℕ)) (n : ℕ) (d : ℕ × ℕ) → AreBlocks blocks → n < length blocks → (get_or blocks n d).0 < 32
block-fits blocks n d are l = size-fits (get_or blocks n d) (are.small n d l)

module _ (block : ℕ × ℕ) (h : ℕ) (is : block.0 ≡ h + 1) where
  pub size : 2 ^ block.0 ≡ 2 ^ h + 2 ^ h
  size = ap (λ (k : ℕ). 2 ^ k) is ∙ pow-more h

  pub left-first : first_in (h, 2 * block.1) ≡ first_in block
  left-first = twice block.1 (2 ^ h) ∙ ap (λ (s : ℕ). block.1 * s) (sym size)

  pub right-first : first_in (h, 2 * block.1 + 1) ≡ first_in block + 2 ^ h
  right-first = next block.1 (2 ^ h) ∙ ap (λ (f : ℕ). f + 2 ^ h) left-first

  pub halves-tiles : tiles_at block ≡ tiles_at (h, 2 * block.1) ++ tiles_at (h, 2 * block.1 + 1)
  halves-tiles = ap (range_with_len (first_in block)) size ∙ (range-append (first_in block) (2 ^ h) (2 ^ h)
      ∙ (ap (λ (f : ℕ). range_with_len f (2 ^ h) ++ range_with_len (first_in block + 2 ^ h) (2 ^ h)) (sym left-first)
      ∙ ap (λ (f : ℕ). tiles_at (h, 2 * block.1) ++ range_with_len f (2 ^ h)) (sym right-first)))

-- where the second half of a block begins
pub middle-first : (b : ℕ × ℕ) (h : ℕ) → b.0 ≡ h + 1 → middle_in b ≡ first_in (h, 2 * b.1 + 1)
middle-first b h is = let e : b.0 - 1 ≡ h = omega (arith, is) in ap (λ k. (2 * b.1 + 1) * 2 ^ k) e

pow-same : (i j : ℕ) → 2 ^ i ≡ 2 ^ j → i ≡ j
pow-same i j same = elim (cases_order i j) [
  | inl e ↦ e
  | inr apart ↦ elim apart [
    | inl up ↦ absurd (let h = pow_below i j up in omega (arith, h, same))
    | inr down ↦ absurd (let h = pow_below j i down in omega (arith, h, same))
  ]
]

-- blocks of the same tiles are one
same-block : (b c : ℕ × ℕ) → tiles_at b ≡ tiles_at c → b ≡ c
same-block b c same =
    let len : 2 ^ b.0 ≡ 2 ^ c.0 = sym (length-range_with_len (first_in b) (2 ^ b.0)) ∙ (ap length same ∙ length-range_with_len (first_in c) (2 ^ c.0)) in
    let k : b.0 ≡ c.0 = pow-same b.0 c.0 len in
    let at : first_in b + 0 ≡ first_in c + 0 = sym (get_or-range_with_len (first_in b) (2 ^ b.0) 0 0 (pow_pos b.0))
    ∙ (ap (λ (l : List ℕ). get_or l 0 0) same ∙ get_or-range_with_len (first_in c) (2 ^ c.0) 0 0 (pow_pos c.0)) in
    let f : first_in b ≡ first_in c = omega (arith, at) in
    let i : b.1 ≡ c.1 = sym (shl-shr b.1 b.0) ∙ (ap (λ (n : ℕ). n / 2 ^ b.0) f ∙ (ap (λ (k : ℕ). first_in c / 2 ^ k) k ∙ shl-shr c.1 c.0)) in
    λ j. (k j, i j)

pub from-part : (blocks : List (ℕ × ℕ)) (c : ℕ × ℕ) → Contains (map tiles_at blocks) (tiles_at c) → Contains blocks c
from-part blocks c (k, l, is) =
    let within : k < length blocks = rw (← length-map blocks tiles_at) l in
    (k, within, same-block (get_or blocks k c) c (sym (get_or-map tiles_at blocks k c (tiles_at c) within) ∙ is))

pub to-part : (blocks : List (ℕ × ℕ)) (c : ℕ × ℕ) → Contains blocks c → Contains (map tiles_at blocks) (tiles_at c)
to-part blocks c (k, l, is) = (k, rw (length-map blocks tiles_at) l, get_or-map tiles_at blocks k c (tiles_at c) l ∙ ap tiles_at is)

-- halves that are both there stand side by side
pub side-by-side : (blocks : List (ℕ × ℕ)) (block : ℕ × ℕ) (h : ℕ) → AreApart blocks → block.0 ≡ h + 1
    → Contains blocks (h, 2 * block.1) → Contains blocks (h, 2 * block.1 + 1) → (n : ℕ) × StandAt blocks block n
side-by-side blocks block h apart is (m, m_in, m_is) (n, n_in, n_is) =
    let left : get_or blocks m (0, 0) ≡ (h, 2 * block.1) = get_or_default blocks m (0, 0) (h, 2 * block.1) m_in ∙ m_is in
    let right : get_or blocks n (0, 0) ≡ (h, 2 * block.1 + 1) = get_or_default blocks n (0, 0) (h, 2 * block.1 + 1) n_in ∙ n_is in
    let lf : first_in (get_or blocks m (0, 0)) ≡ first_in block = ap first_in left ∙ left-first block h is in
    let le : end_of (get_or blocks m (0, 0)) ≡ first_in block + 2 ^ h = ap end_of left ∙ ap (λ (f : ℕ). f + 2 ^ h) (left-first block h is) in
    let rf : first_in (get_or blocks n (0, 0)) ≡ first_in block + 2 ^ h = ap first_in right ∙ right-first block h is in
    let re : end_of (get_or blocks n (0, 0)) ≡ first_in block + 2 ^ h + 2 ^ h = ap end_of right ∙ ap (λ (f : ℕ). f + 2 ^ h) (right-first block h is) in
    let some = pow_pos h in
    elim (cases_lt m n) [
      | inl up ↦ elim (cases_lt (m + 1) n) [
        | inl between ↦ absurd (
            let x = get_or blocks (m + 1) (0, 0) in
            let a = apart m (m + 1) (0, 0) (omega arith) (omega (arith, between, n_in)) in
            let b = apart (m + 1) n (0, 0) between n_in in
            let c = pow_pos x.0 in
            omega (arith, a, b, c, le, rf)
            )
        | inr close ↦
            let here : m + 1 ≡ n = omega (arith, up, close) in
            let other : get_or blocks (m + 1) (0, 0) ≡ (h, 2 * block.1 + 1) = ap (λ (k : ℕ). get_or blocks k (0, 0)) here ∙ right in (
              m,
              (
                omega (arith, here, n_in),
                record {
                  size = is ∙ ap (λ (b : ℕ × ℕ). b.0 + 1) (sym left);
                  left = ap (λ (b : ℕ × ℕ). b.1) left;
                  right = (ap (λ (b : ℕ × ℕ). b.0) other ∙ ap (λ (b : ℕ × ℕ). b.0) (sym left), ap (λ (b : ℕ × ℕ). b.1) other ∙ ap (λ (b : ℕ × ℕ). b.1 + 1) (sym left));
                },
              ),
            )
      ]
      | inr past ↦ absurd (elim (cases_lt n m) [
        | inl down ↦ (let a = apart n m (0, 0) down m_in in omega (arith, a, re, lf, some))
        | inr same ↦ (let e : m ≡ n = omega (arith, past, same) in let f = ap (λ (k : ℕ). first_in (get_or blocks k (0, 0))) e in omega (arith, f, lf, rf, some))
      ])
    ]
