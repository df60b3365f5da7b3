-- Searches, run by run.
use Rattle.std.proofs.Common.{◌≡◌, ◌≢◌, ℕ, zero, suc, ◌+◌, ◌-◌, ◌*◌, ◌/◌, ◌%◌, ◌^◌, ◌<◌, ◌≤◌, inl, inr, List, [], length, get_or, sym, refl, ap, ◌∙◌, subst, arith}
use Rattle.std.proofs.lemmas.Bool.{cases_eq, cases_lt}
use Rattle.std.proofs.Math.Nat.{le-div_iff_mul-le, div-lt_iff_lt-mul, div-mul-le_self, lt-div-mul-add, mul-le-mul_left, mul-le-mul_right, mul-lt-mul_of_pos_right, pow-suc}
use Rattle.dpl_spec_split.specs.declared.Rect.{Rect}
use Rattle.dpl_tree.specs.declared.items.Item.{Item}
use Rattle.dpl_tree.specs.declared.blocks.Block.{Block}
use Rattle.dpl_tree.specs.declared.owners.Owners.{Owners}
use Rattle.dpl_tree.specs.declared.search.Place.{Place}
use Rattle.dpl_tree.specs.declared.search.Finding.{Finding}
use Rattle.dpl_tree.specs.declared.search.Finding.TheVariants.{Found, Passed, Over}
use Rattle.dpl_tree.specs.Trees.{ArePassed}
use Rattle.dpl_tree.specs.Blocks.{item_block, same_block, IsLevelOver, AreCovered, IsBarred, IsFoundAmong, IsFoundAt}
use Rattle.dpl_tree.proofs.BlockLaws.{is-at, wide, barred-down, missed-barred, under-self}

-- ---- a run among things

abbrev pub AreBarred : {T : Type 0} → (T → Block) → List T → ℕ → ℕ → Rect → Owners → Type 0
AreBarred {T} block_of things at n window owners = (i : ℕ) (d : T) → at ≤ i → i < n → IsBarred window owners (block_of (get_or things i d))

module _ {T : Type 0} (block_of : T → Block) (things : List T) (at : ℕ) (window : Rect) (owners : Owners) where
  pub barred-none : AreBarred block_of things at at window owners
  barred-none i d a b = absurd (omega (arith, a, b))

  pub barred-more : (n : ℕ) (x : T) (block : Block) → n < length things → x ≡ get_or things n x → block ≡ block_of x
      → AreBarred block_of things at n window owners → IsBarred window owners block
      → AreBarred block_of things at (n + 1) window owners
  barred-more n x block n_in is own before here i d a b = elim (cases_eq i n) [
    | inl same ↦ rw (is-at block_of things n i x d n_in same is) (rw own at here)
    | inr ne ↦ before i d a (omega (arith, b, ne))
  ]

  pub run-found : (n : ℕ) (x : T) (block : Block) → n < length things → at ≤ n → x ≡ get_or things n x → block ≡ block_of x
      → AreBarred block_of things at n window owners → ¬ IsBarred window owners block
      → IsFoundAmong block_of things at window owners (Found n)
  run-found n x block n_in low is own before here = (low, n_in, before, λ d. rw (is-at block_of things n n x d n_in refl is) (rw own at here))

-- ---- from things to items

found-items : (items : List Item) (at : ℕ) (window : Rect) (owners : Owners) (run : Finding)
    → IsFoundAmong item_block items at window owners run → IsFoundAt items (record { level = 0; at = at }) window owners run
found-items items at window owners (Found k) (a, b, c, d) = (
  a,
  omega (arith, b),
  (λ j e low high l. barred-down window owners (get_or items j e) (item_block (get_or items j e))
      (under-self (item_block (get_or items j e))) (c j e (omega (arith, low)) (omega (arith, high)))),
  (λ z e m. d e (missed-barred window owners (get_or items k e) m)),
)
found-items items at window owners (Passed k) (a, b, c) = (
  a,
  omega (arith, a, b),
  (λ j e low high l. barred-down window owners (get_or items j e) (item_block (get_or items j e))
      (under-self (item_block (get_or items j e))) (c j e (omega (arith, low)) (omega (arith, high)))),
)
found-items items at window owners Over a = omega (arith, a)

pub found-first : (items : List Item) (place : Place) (window : Rect) (owners : Owners) (run : Finding) → place.level ≡ 0
    → IsFoundAmong item_block items place.at window owners run → IsFoundAt items place window owners run
found-first items place window owners run level r = subst (λ n. IsFoundAt items (record { level = n; at = place.at }) window owners run)
    (sym level) (found-items items place.at window owners run r)

module _ (items : List Item) (blocks : List Block) (w : ℕ) (some : 0 < w) (covered : IsLevelOver item_block items w blocks) (window : Rect) (owners : Owners) where
  begins : (k : ℕ) → k < length blocks → k * w < length items
  begins k k_in =
      let f = covered.few in
      let g : (k + 1) * w ≤ length blocks * w = mul-le-mul_right w (omega (arith, k_in)) in
      let e : (k + 1) * w ≡ k * w + w = omega arith in
      omega (arith, f, g, e)

  passes : (at k : ℕ) → AreBarred same_block blocks at k window owners → ArePassed window owners items (at * w) (k * w)
  passes at k barred j e low high l =
      let d : Block = item_block e in
      barred-down window owners (get_or items j e) (get_or blocks (j / w) d)
      (covered.under (j / w) j e d (div-mul-le_self j w) (lt-div-mul-add some) l)
      (barred (j / w) d ((le-div_iff_mul-le some).1 low) ((div-lt_iff_lt-mul some).1 high))

  ends : (at : ℕ) → length blocks ≤ at → length items ≤ at * w
  ends at over = let e = covered.enough in let f : length blocks * w ≤ at * w = mul-le-mul_right w over in omega (arith, e, f)

pub found-blocks : (items : List Item) (blocks : List Block) (place : Place) (window : Rect) (owners : Owners) (run : Finding)
    → 0 < place.level → IsLevelOver item_block items (8 ^ place.level) blocks
    → IsFoundAmong same_block blocks place.at window owners run → IsFoundAt items place window owners run
found-blocks items blocks place window owners (Found k) some covered (a, b, c, d) = (
  a,
  begins items blocks (8 ^ place.level) (wide place.level) covered window owners k b,
  passes items blocks (8 ^ place.level) (wide place.level) covered window owners place.at k c,
  (λ z. absurd (omega (arith, some, z))),
)
found-blocks items blocks place window owners (Passed k) some covered (a, b, c) = (
  a,
  begins items blocks (8 ^ place.level) (wide place.level) covered window owners place.at (omega (arith, a, b)),
  passes items blocks (8 ^ place.level) (wide place.level) covered window owners place.at k c,
)
found-blocks items blocks place window owners Over some covered a = ends items blocks (8 ^ place.level) (wide place.level) covered window owners place.at a

pub found-above : (items : List Item) (levels : List (List Block)) (place : Place) (window : Rect) (owners : Owners) (run : Finding)
    → AreCovered items levels → place.level ≢ 0 → place.level ≤ length levels
    → IsFoundAmong same_block (get_or levels (place.level - 1) []) place.at window owners run → IsFoundAt items place window owners run
found-above items levels place window owners run covered some known r =
    let k_in : place.level - 1 < length levels = omega (arith, some, known) in
    let e : suc (place.level - 1) ≡ place.level = omega (arith, some) in
    found-blocks items (get_or levels (place.level - 1) []) place window owners run (omega (arith, some))
    (subst (λ n. IsLevelOver item_block items (8 ^ n) (get_or levels (place.level - 1) [])) e (covered (place.level - 1) k_in)) r

-- ---- from place to place

pub up-start : (at level : ℕ) → at % 8 ≡ 0 → at / 8 * 8 ^ (level + 1) ≡ at * 8 ^ level
up-start at level whole =
    let p : 8 ^ (level + 1) ≡ 8 ^ level * 8 = ap (λ n. 8 ^ n) (let e : level + 1 ≡ suc level = omega arith in e) ∙ pow-suc 8 level in
    let q : at / 8 * 8 ≡ at = omega (arith, whole) in
    let r : at / 8 * (8 ^ level * 8) ≡ at / 8 * 8 * 8 ^ level = omega arith in
    ap (λ n. at / 8 * n) p ∙ (r ∙ ap (λ n. n * 8 ^ level) q)

pub down-start : (k level : ℕ) → level ≢ 0 → k * 8 * 8 ^ (level - 1) ≡ k * 8 ^ level
down-start k zero ne = absurd (ne refl)
down-start k (suc n) ne =
    let p : 8 ^ suc n ≡ 8 ^ n * 8 = pow-suc 8 n in
    let one : suc n - 1 ≡ n = omega arith in
    let q : k * 8 * 8 ^ n ≡ k * (8 ^ n * 8) = omega arith in
    ap (λ m. k * 8 * 8 ^ m) one ∙ (q ∙ ap (λ m. k * m) (sym p))

pub first-start : (k level : ℕ) → level ≡ 0 → k * 8 ^ level ≡ k
first-start k level e = ap (λ n. k * 8 ^ n) e ∙ omega arith

pub level-wide : (k level : ℕ) → level ≢ 0 → k * 8 ≤ k * 8 ^ level
level-wide k zero ne = absurd (ne refl)
level-wide k (suc n) ne =
    let p : 8 ^ suc n ≡ 8 ^ n * 8 = pow-suc 8 n in
    let w = wide n in
    let m : k * 1 ≤ k * 8 ^ n = mul-le-mul_left k (omega (arith, w)) in
    let q : k * (8 ^ n * 8) ≡ k * 8 ^ n * 8 = omega arith in
    let r : k * 8 ^ suc n ≡ k * (8 ^ n * 8) = ap (λ x. k * x) p in
    omega (arith, m, q, r)

pub start-up : (a b level : ℕ) → a ≤ b → a * 8 ^ level ≤ b * 8 ^ level
start-up a b level h = mul-le-mul_right (8 ^ level) h

pub start-up_more : (a b level : ℕ) → a < b → a * 8 ^ level < b * 8 ^ level
start-up_more a b level h = mul-lt-mul_of_pos_right h (wide level)

-- fewer items are left
pub fewer-left : (n old new levels before after : ℕ) → old < n → old < new → after ≤ levels → (n - new) * (levels + 1) + after < (n - old) * (levels + 1) + before
fewer-left n old new levels before after a b c =
    let m : (n - new + 1) * (levels + 1) ≤ (n - old) * (levels + 1) = mul-le-mul_right (levels + 1) (omega (arith, a, b)) in
    let e : (n - new + 1) * (levels + 1) ≡ (n - new) * (levels + 1) + (levels + 1) = omega arith in
    omega (arith, m, e, c)

-- a level lower, and no more items are left
pub lower-left : (n old new levels before : ℕ) → old ≤ new → before ≢ 0 → (n - new) * (levels + 1) + (before - 1) < (n - old) * (levels + 1) + before
lower-left n old new levels before a b =
    let m : (n - new) * (levels + 1) ≤ (n - old) * (levels + 1) = mul-le-mul_right (levels + 1) (omega (arith, a)) in
    omega (arith, m, b)

-- what was passed before and what is passed now
pub passed-on : (window : Rect) (owners : Owners) (items : List Item) (from mid n : ℕ) → ArePassed window owners items from mid
    → ArePassed window owners items mid n → ArePassed window owners items from n
passed-on window owners items from mid n before now j d a b l = elim (cases_lt j mid) [ inl less ↦ before j d a less l | inr more ↦ now j d more b l ]
