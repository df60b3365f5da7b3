-- Summaries that are gathered at the front of the table that they stood in.
use Rattle.std.proofs.Common.{◌≡◌, ◌≢◌, ◌+◌, ◌/◌, ◌^◌, ◌<◌, ◌≤◌, ◌∙◌, ◌++◌, ◌∷◌, [], ℕ, List, length, take, get_or, set, sym, ap, arith}
use Rattle.std.specs.Prelude.{Option, None, Some}
use Rattle.std.specs.List.{SwappedAt}
use Rattle.std.proofs.lemmas.List.{length-set, map-append, take-set-le, take_more}
use Rattle.dpl_stars.specs.declared.joined.Joined.{Joined}
use Rattle.dpl_stars.specs.declared.joined.Joined.TheVariants.{Odd}
use Rattle.dpl_board.specs.Starts.{AreAligned, blocks_of}
use Rattle.dpl_board.specs.Blocks.{first_in, sums_at}
use Rattle.dpl_board.proofs.Tables.{next-none, next-some}

-- those of the blocks that begin before tile t are the first n of the table, and those from it on stand where they stood
pub record AreGathered (starts : List (Option ℕ)) (sums : List Joined) (t n : ℕ) (table : List Joined) : Type 0 where
  pub few : n ≤ t
  pub len : length table ≡ length sums
  pub first : take n table ≡ sums_at sums (blocks_of (take t starts))
  pub rest : (m : ℕ) → t ≤ m → get_or table m Odd ≡ get_or sums m Odd

pub gathered-none : (starts : List (Option ℕ)) (sums : List Joined) (t n : ℕ) (table : List Joined) → t < length starts → get_or starts t None ≡ None
    → AreGathered starts sums t n table → AreGathered starts sums (t + 1) n table
gathered-none starts sums t n table within none old = record {
  few = (let f = old.few in omega (arith, f));
  len = old.len;
  first = old.first ∙ sym (ap (sums_at sums) (next-none starts t within none));
  rest = λ m past. old.rest m (omega (arith, past));
}

pub gathered-some : (starts : List (Option ℕ)) (sums : List Joined) (t n k : ℕ) (table swapped : List Joined) → AreAligned starts → t < length starts
    → length sums ≡ length starts → get_or starts t None ≡ Some k → SwappedAt table swapped n t → AreGathered starts sums t n table
    → AreGathered starts sums (t + 1) (n + 1) swapped
gathered-some starts sums t n k table swapped aligned within same is s old =
    let few = old.few in
    let x = get_or table t Odd in
    let y = get_or table n Odd in
    let is_set : swapped ≡ set (set table n x) t y = s.3 Odd in
    let len : length swapped ≡ length sums = ap length is_set ∙ (length-set (set table n x) t y ∙ (length-set table n x ∙ old.len)) in
    let front : take n swapped ≡ take n table = ap (take n) is_set ∙ (take-set-le n (set table n x) t y few ∙ take-set-le n table n x (omega arith)) in
    let here : get_or swapped n Odd ≡ get_or sums t Odd = s.0 Odd ∙ old.rest t (omega arith) in
    let sum_of : ℕ × ℕ → Joined = λ b. get_or sums (first_in b) Odd in
    let more : sums_at sums (blocks_of (take (t + 1) starts)) ≡ sums_at sums (blocks_of (take t starts)) ++ get_or sums t Odd ∷ [] =
    ap (sums_at sums) (next-some starts t k within is) ∙ (map-append sum_of (blocks_of (take t starts)) ((k, t / 2 ^ k) ∷ [])
    ∙ ap (λ (f : ℕ). sums_at sums (blocks_of (take t starts)) ++ get_or sums f Odd ∷ []) (aligned t k is)) in
    record {
      few = omega (arith, few);
      len = len;
      first = take_more swapped n Odd (omega (arith, few, within, same, len)) ∙ ((λ j. (front ∙ old.first) j ++ here j ∷ []) ∙ sym more);
      rest = λ m past.
          (let one : m ≢ n = λ e. omega (arith, e, past, few) in
          let other : m ≢ t = λ e. omega (arith, e, past) in
          s.2 m Odd one other ∙ old.rest m (omega (arith, past)));
    }
