-- Lists of blocks, as a table of where they begin has them.
use Rattle.std.proofs.Common.{◌≡◌, ◌+◌, ◌*◌, ◌/◌, ◌^◌, ◌<◌, ◌≤◌, ◌∙◌, ℕ, zero, suc, List, [], ◌∷◌, ◌++◌, length, get_or, set, take, inl, inr, refl, ap, subst, arith}
use Rattle.std.specs.Prelude.{Option, None, Some}
use Rattle.std.specs.List.{Contains, insert, remove}
use Rattle.std.proofs.lemmas.Bool.{cases_lt}
use Rattle.std.proofs.lemmas.Nat.{shl-shr}
use Rattle.std.proofs.lemmas.List.{get_or_past}
use Rattle.dpl_board.specs.Starts.{AreAligned, blocks_from, blocks_of}
use Rattle.dpl_board.specs.Blocks.{first_in}

-- how many blocks begin before a tile
abbrev pub place_of : ℕ → ℕ → List (Option ℕ) → ℕ
place_of t i starts = length (blocks_from t (take i starts))

here : (t k : ℕ) → ◌≡◌ {A = ℕ × ℕ} (k, t / 2 ^ k) (k, (t + 0) / 2 ^ k)
here t k = let e : t ≡ t + 0 = omega arith in ap (λ (n : ℕ). (k, n / 2 ^ k)) e

next : (t i k : ℕ) → ◌≡◌ {A = ℕ × ℕ} (k, (t + 1 + i) / 2 ^ k) (k, (t + suc i) / 2 ^ k)
next t i k = let e : t + 1 + i ≡ t + suc i = omega arith in ap (λ (n : ℕ). (k, n / 2 ^ k)) e

-- a block more
pub starts-more : (t i k : ℕ) (starts : List (Option ℕ)) → i < length starts → get_or starts i None ≡ None
    → blocks_from t (set starts i (Some k)) ≡ insert (blocks_from t starts) (place_of t i starts) (k, (t + i) / 2 ^ k)
starts-more t i k [] within none = absurd (omega (arith, within))
starts-more t zero k (None ∷ starts) within none = ap (λ (b : ℕ × ℕ). b ∷ blocks_from (t + 1) starts) (here t k)
starts-more t zero k (Some h ∷ starts) within none = absurd (cc)
starts-more t (suc i) k (None ∷ starts) within none =
    starts-more (t + 1) i k starts (omega (arith, within)) none
    ∙ ap (λ (b : ℕ × ℕ). insert (blocks_from (t + 1) starts) (place_of (t + 1) i starts) b) (next t i k)
starts-more t (suc i) k (Some h ∷ starts) within none =
    ap (λ (bs : List (ℕ × ℕ)). (h, t / 2 ^ h) ∷ bs) (starts-more (t + 1) i k starts (omega (arith, within)) none
    ∙ ap (λ (b : ℕ × ℕ). insert (blocks_from (t + 1) starts) (place_of (t + 1) i starts) b) (next t i k))

-- another block in the place of one
pub starts-other : (t i h k : ℕ) (starts : List (Option ℕ)) → i < length starts → get_or starts i None ≡ Some h
    → blocks_from t (set starts i (Some k)) ≡ set (blocks_from t starts) (place_of t i starts) (k, (t + i) / 2 ^ k)
starts-other t i h k [] within is = absurd (omega (arith, within))
starts-other t zero h k (None ∷ starts) within is = absurd (cc)
starts-other t zero h k (Some m ∷ starts) within is = ap (λ (b : ℕ × ℕ). b ∷ blocks_from (t + 1) starts) (here t k)
starts-other t (suc i) h k (None ∷ starts) within is =
    starts-other (t + 1) i h k starts (omega (arith, within)) is
    ∙ ap (λ (b : ℕ × ℕ). set (blocks_from (t + 1) starts) (place_of (t + 1) i starts) b) (next t i k)
starts-other t (suc i) h k (Some m ∷ starts) within is =
    ap (λ (bs : List (ℕ × ℕ)). (m, t / 2 ^ m) ∷ bs) (starts-other (t + 1) i h k starts (omega (arith, within)) is
    ∙ ap (λ (b : ℕ × ℕ). set (blocks_from (t + 1) starts) (place_of (t + 1) i starts) b) (next t i k))

-- a block less
pub starts-less : (t i h : ℕ) (starts : List (Option ℕ)) → i < length starts → get_or starts i None ≡ Some h
    → blocks_from t (set starts i None) ≡ remove (blocks_from t starts) (place_of t i starts)
starts-less t i h [] within is = absurd (omega (arith, within))
starts-less t zero h (None ∷ starts) within is = absurd (cc)
starts-less t zero h (Some m ∷ starts) within is = refl
starts-less t (suc i) h (None ∷ starts) within is = starts-less (t + 1) i h starts (omega (arith, within)) is
starts-less t (suc i) h (Some m ∷ starts) within is = ap (λ (bs : List (ℕ × ℕ)). (m, t / 2 ^ m) ∷ bs) (starts-less (t + 1) i h starts (omega (arith, within)) is)

-- the block that begins at a tile stands at its place
pub starts-at : (t i k : ℕ) (d : ℕ × ℕ) (starts : List (Option ℕ)) → i < length starts → get_or starts i None ≡ Some k
    → (place_of t i starts < length (blocks_from t starts)) × (get_or (blocks_from t starts) (place_of t i starts) d ≡ (k, (t + i) / 2 ^ k))
starts-at t i k d [] within is = absurd (omega (arith, within))
starts-at t zero k d (None ∷ starts) within is = absurd (cc)
starts-at t zero k d (Some m ∷ starts) within is = (omega arith, ap (λ (o : Option ℕ). (size_in o, t / 2 ^ size_in o)) is ∙ here t k)
  where
    size_in : Option ℕ → ℕ
    size_in None = 0
    size_in (Some n) = n
starts-at t (suc i) k d (None ∷ starts) within is =
    let r = starts-at (t + 1) i k d starts (omega (arith, within)) is in (r.0, r.1 ∙ next t i k)
starts-at t (suc i) k d (Some m ∷ starts) within is =
    let r = starts-at (t + 1) i k d starts (omega (arith, within)) is in (omega (arith, r.0), r.1 ∙ next t i k)

-- each block begins at a multiple of its size
abbrev AlignedFrom : ℕ → List (Option ℕ) → Type 0
AlignedFrom t starts = (i k : ℕ) → get_or starts i None ≡ Some k → (t + i) / 2 ^ k * 2 ^ k ≡ t + i

aligned-tail : (t : ℕ) (s : Option ℕ) (starts : List (Option ℕ)) → AlignedFrom t (s ∷ starts) → AlignedFrom (t + 1) starts
aligned-tail t s starts aligned i k is =
    let e : t + suc i ≡ t + 1 + i = omega arith in
    subst (λ (n : ℕ). n / 2 ^ k * 2 ^ k ≡ n) e (aligned (suc i) k is)

-- later blocks begin no earlier
firsts-from : (t : ℕ) (starts : List (Option ℕ)) (n : ℕ) (d : ℕ × ℕ) → AlignedFrom t starts → n < length (blocks_from t starts)
    → t ≤ first_in (get_or (blocks_from t starts) n d)
firsts-from t [] n d aligned within = absurd (omega (arith, within))
firsts-from t (None ∷ starts) n d aligned within =
    let r = firsts-from (t + 1) starts n d (aligned-tail t None starts aligned) within in omega (arith, r)
firsts-from t (Some k ∷ starts) zero d aligned within = let e = aligned 0 k refl in let f = here t k in
    let g : first_in (k, t / 2 ^ k) ≡ t + 0 = ap first_in f ∙ e in omega (arith, g)
firsts-from t (Some k ∷ starts) (suc n) d aligned within =
    let r = firsts-from (t + 1) starts n d (aligned-tail t (Some k) starts aligned) (omega (arith, within)) in omega (arith, r)

-- the blocks that begin before a tile, and those that don't
pub firsts-before : (t i : ℕ) (starts : List (Option ℕ)) (n : ℕ) (d : ℕ × ℕ) → AlignedFrom t starts → n < place_of t i starts
    → first_in (get_or (blocks_from t starts) n d) < t + i
firsts-before t zero starts n d aligned before = absurd (omega (arith, before))
firsts-before t (suc i) [] n d aligned before = absurd (omega (arith, before))
firsts-before t (suc i) (None ∷ starts) n d aligned before =
    let r = firsts-before (t + 1) i starts n d (aligned-tail t None starts aligned) before in omega (arith, r)
firsts-before t (suc i) (Some k ∷ starts) zero d aligned before = let e = aligned 0 k refl in let f = here t k in
    let g : first_in (k, t / 2 ^ k) ≡ t + 0 = ap first_in f ∙ e in omega (arith, g)
firsts-before t (suc i) (Some k ∷ starts) (suc n) d aligned before =
    let r = firsts-before (t + 1) i starts n d (aligned-tail t (Some k) starts aligned) (omega (arith, before)) in omega (arith, r)

pub firsts-behind : (t i : ℕ) (starts : List (Option ℕ)) (n : ℕ) (d : ℕ × ℕ) → AlignedFrom t starts → place_of t i starts ≤ n
    → n < length (blocks_from t starts) → t + i ≤ first_in (get_or (blocks_from t starts) n d)
firsts-behind t zero starts n d aligned past within = let r = firsts-from t starts n d aligned within in omega (arith, r)
firsts-behind t (suc i) [] n d aligned past within = absurd (omega (arith, within))
firsts-behind t (suc i) (None ∷ starts) n d aligned past within =
    let r = firsts-behind (t + 1) i starts n d (aligned-tail t None starts aligned) past within in omega (arith, r)
firsts-behind t (suc i) (Some k ∷ starts) zero d aligned past within = absurd (omega (arith, past))
firsts-behind t (suc i) (Some k ∷ starts) (suc n) d aligned past within =
    let r = firsts-behind (t + 1) i starts n d (aligned-tail t (Some k) starts aligned) (omega (arith, past)) (omega (arith, within)) in omega (arith, r)

pub place-within : (t i : ℕ) (starts : List (Option ℕ)) → place_of t i starts ≤ length (blocks_from t starts)
place-within t zero starts = omega arith
place-within t (suc i) [] = omega arith
place-within t (suc i) (None ∷ starts) = place-within (t + 1) i starts
place-within t (suc i) (Some k ∷ starts) = let r = place-within (t + 1) i starts in omega (arith, r)

-- there are no more blocks than tiles
pub blocks-few : (t : ℕ) (starts : List (Option ℕ)) → length (blocks_from t starts) ≤ length starts
blocks-few t [] = omega arith
blocks-few t (None ∷ starts) = let r = blocks-few (t + 1) starts in omega (arith, r)
blocks-few t (Some k ∷ starts) = let r = blocks-few (t + 1) starts in omega (arith, r)

-- no blocks
pub aligned-none : (starts : List (Option ℕ)) → ((i : ℕ) → get_or starts i None ≡ None) → AreAligned starts
aligned-none starts none t k some = let e = none t in absurd (cc)

pub blocks-none : (t : ℕ) (starts : List (Option ℕ)) → ((i : ℕ) → get_or starts i None ≡ None) → blocks_from t starts ≡ []
blocks-none t [] none = refl
blocks-none t (None ∷ starts) none = blocks-none (t + 1) starts (λ i. none (suc i))
blocks-none t (Some k ∷ starts) none = absurd (let e = none 0 in cc)

-- the blocks of one tile more
pub blocks-next : (t n : ℕ) (starts : List (Option ℕ)) → n < length starts
    → blocks_from t (take (suc n) starts) ≡ blocks_from t (take n starts) ++ blocks_from (t + n) (get_or starts n None ∷ [])
blocks-next t n [] within = absurd (omega (arith, within))
blocks-next t zero (s ∷ starts) within = let e : t ≡ t + 0 = omega arith in ap (λ (m : ℕ). blocks_from m (s ∷ [])) e
blocks-next t (suc n) (None ∷ starts) within =
    let e : t + 1 + n ≡ t + suc n = omega arith in
    blocks-next (t + 1) n starts (omega (arith, within))
    ∙ ap (λ (m : ℕ). blocks_from (t + 1) (take n starts) ++ blocks_from m (get_or starts n None ∷ [])) e
blocks-next t (suc n) (Some k ∷ starts) within =
    let e : t + 1 + n ≡ t + suc n = omega arith in
    ap (λ (bs : List (ℕ × ℕ)). (k, t / 2 ^ k) ∷ bs) (blocks-next (t + 1) n starts (omega (arith, within))
    ∙ ap (λ (m : ℕ). blocks_from (t + 1) (take n starts) ++ blocks_from m (get_or starts n None ∷ [])) e)

-- where a block of the list begins
from-starts : (t : ℕ) (starts : List (Option ℕ)) (b : ℕ × ℕ) → Contains (blocks_from t starts) b
    → (i : ℕ) × (i < length starts) × (get_or starts i None ≡ Some b.0) × (b.1 ≡ (t + i) / 2 ^ b.0)
from-starts t [] b (n, within, is) = absurd (omega (arith, within))
from-starts t (None ∷ starts) b there =
    let r = from-starts (t + 1) starts b there in
    let e : t + 1 + r.0 ≡ t + suc r.0 = omega arith in
    (suc r.0, (let l = r.1 in omega (arith, l)), r.2, r.3 ∙ ap (λ (m : ℕ). m / 2 ^ b.0) e)
from-starts t (Some k ∷ starts) b (zero, within, is) =
    let e : t ≡ t + 0 = omega arith in
    (0, omega arith, ap (λ (x : ℕ × ℕ). Some x.0) is, subst (λ (x : ℕ × ℕ). x.1 ≡ (t + 0) / 2 ^ x.0) is (ap (λ (m : ℕ). m / 2 ^ k) e))
from-starts t (Some k ∷ starts) b (suc n, within, is) =
    let r = from-starts (t + 1) starts b (n, omega (arith, within), is) in
    let e : t + 1 + r.0 ≡ t + suc r.0 = omega arith in
    (suc r.0, (let l = r.1 in omega (arith, l)), r.2, r.3 ∙ ap (λ (m : ℕ). m / 2 ^ b.0) e)

-- past the table no block begins
some-within : (starts : List (Option ℕ)) (i k : ℕ) → get_or starts i None ≡ Some k → i < length starts
some-within starts i k is = elim (cases_lt i (length starts)) [
  | inl l ↦ l
  | inr past ↦ absurd (let e = get_or_past starts i None past in cc)
]

-- the table of some blocks, from the first tile on
module _ (starts : List (Option ℕ)) where
  from-zero : AreAligned starts → AlignedFrom 0 starts
  from-zero aligned i k is = let e : i ≡ 0 + i = omega arith in subst (λ (n : ℕ). n / 2 ^ k * 2 ^ k ≡ n) e (aligned i k is)

  pub before-tile : (i n : ℕ) (d : ℕ × ℕ) → AreAligned starts → n < place_of 0 i starts → first_in (get_or (blocks_of starts) n d) < i
  before-tile i n d aligned before = let r = firsts-before 0 i starts n d (from-zero aligned) before in omega (arith, r)

  pub behind-tile : (i n : ℕ) (d : ℕ × ℕ) → AreAligned starts → place_of 0 i starts ≤ n → n < length (blocks_of starts)
      → i ≤ first_in (get_or (blocks_of starts) n d)
  behind-tile i n d aligned past within = let r = firsts-behind 0 i starts n d (from-zero aligned) past within in omega (arith, r)

  -- a block of the list begins at its first tile
  pub begins-there : (b : ℕ × ℕ) → AreAligned starts → Contains (blocks_of starts) b
      → (first_in b < length starts) × (get_or starts (first_in b) None ≡ Some b.0)
  begins-there b aligned there =
      let r = from-starts 0 starts b there in
      let e : 0 + r.0 ≡ r.0 = omega arith in
      let f : first_in b ≡ r.0 = ap (λ (m : ℕ). m * 2 ^ b.0) (r.3 ∙ ap (λ (m : ℕ). m / 2 ^ b.0) e) ∙ aligned r.0 b.0 r.2 in
      (let l = r.1 in omega (arith, f, l), ap (λ (m : ℕ). get_or starts m None) f ∙ r.2)

  -- and one that begins at its first tile is there
  pub there-begins : (b : ℕ × ℕ) → get_or starts (first_in b) None ≡ Some b.0 → Contains (blocks_of starts) b
  there-begins b is =
      let within : first_in b < length starts = some-within starts (first_in b) b.0 is in
      let r = starts-at 0 (first_in b) b.0 b starts within is in
      let e : 0 + first_in b ≡ first_in b = omega arith in
      let f : (0 + first_in b) / 2 ^ b.0 ≡ b.1 = ap (λ (m : ℕ). m / 2 ^ b.0) e ∙ shl-shr b.1 b.0 in
      (place_of 0 (first_in b) starts, r.0, r.1 ∙ ap (λ (m : ℕ). (b.0, m)) f)

  pub at-tile : (i k : ℕ) → get_or starts i None ≡ Some k → Contains (blocks_of starts) (k, i / 2 ^ k)
  at-tile i k is =
      let within : i < length starts = some-within starts i k is in
      let r = starts-at 0 i k (k, i / 2 ^ k) starts within is in
      let e : 0 + i ≡ i = omega arith in
      (place_of 0 i starts, r.0, r.1 ∙ ap (λ (m : ℕ). (k, m / 2 ^ k)) e)
