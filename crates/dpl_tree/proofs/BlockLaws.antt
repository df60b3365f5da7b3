-- Blocks over items, level by level.
use Rattle.std.proofs.Common.{◌≡◌, ℕ, zero, suc, ◌+◌, ◌*◌, ◌/◌, ◌^◌, ◌<◌, ◌≤◌, ◌⊎◌, inl, inr, List, [], ◌∷◌, ◌++◌, length, get_or, sym, ap, ◌∙◌, subst, arith}
use Rattle.std.proofs.lemmas.Int.{ints}
use Rattle.std.proofs.lemmas.Bool.{cases_eq, cases_lt}
use Rattle.std.proofs.lemmas.List.{get_or_default, get_or_append_left, get_or_push, length_push}
use Rattle.std.proofs.Math.Nat.{le-div_iff_mul-le, div-lt_iff_lt-mul, div-mul-le_self, lt-div-mul-add, mul-le-mul_right, pow-suc}
use Rattle.dpl_spec_split.specs.declared.Rect.{Rect}
use Rattle.dpl_tree.specs.declared.items.Item.{Item}
use Rattle.dpl_tree.specs.declared.blocks.Block.{Block}
use Rattle.dpl_tree.specs.declared.owners.Owners.{Owners}
use Rattle.dpl_tree.specs.declared.owners.Owners.TheVariants.{All, But, Only, Above}
use Rattle.dpl_tree.specs.Trees.{LiesIn, LiesApart, IsLeftOut, IsMissed}
use Rattle.dpl_tree.specs.Blocks.{item_block, same_block, IsUnder, IsLevelOver, AreCovered, IsIndex, AreLeftOut, IsBarred}

pub under-self : (a : Block) → IsUnder a a
under-self a =
    record {
      inside = record { left = omega (arith, ints); right = omega (arith, ints); low = omega (arith, ints); high = omega (arith, ints) };
      least = omega arith;
      greatest = omega arith;
    }

pub under-trans : (a b c : Block) → IsUnder a b → IsUnder b c → IsUnder a c
under-trans a b c u v =
    let ui = u.inside in
    let vi = v.inside in
    let u0 = ui.left in
    let u1 = ui.right in
    let u2 = ui.low in
    let u3 = ui.high in
    let v0 = vi.left in
    let v1 = vi.right in
    let v2 = vi.low in
    let v3 = vi.high in
    let u4 = u.least in
    let u5 = u.greatest in
    let v4 = v.least in
    let v5 = v.greatest in
    record {
      inside = record { left = omega (arith, ints, u0, v0); right = omega (arith, ints, u1, v1); low = omega (arith, ints, u2, v2); high = omega (arith, ints, u3, v3) };
      least = omega (arith, u4, v4);
      greatest = omega (arith, u5, v5);
    }

-- the block is over the things from number first on, below number n
abbrev pub IsOver : {T : Type 0} → (T → Block) → List T → ℕ → ℕ → Block → Type 0
IsOver {T} block_of things first n block = (i : ℕ) (d : T) → first ≤ i → i < n → i < length things → IsUnder (block_of (get_or things i d)) block

module _ {T : Type 0} (block_of : T → Block) (things : List T) where
  pub is-at : (n i : ℕ) (x d : T) → n < length things → i ≡ n → x ≡ get_or things n x → get_or things i d ≡ x
  is-at n i x d n_in same is = ap (λ m. get_or things m d) same ∙ (get_or_default things n d x n_in ∙ sym is)

  pub over-first : (first n : ℕ) (x : T) (block : Block) → n ≡ first + 1 → first < length things → x ≡ get_or things first x
      → block ≡ block_of x → IsOver block_of things first n block
  over-first first n x block n_is first_in is own i d a b l = rw (is-at first i x d first_in (omega (arith, a, b, n_is)) is, own) (under-self (block_of x))

  pub over-more : (first n : ℕ) (x : T) (block old new : Block) → n < length things → x ≡ get_or things n x → block ≡ block_of x
      → IsUnder old new → IsUnder block new → IsOver block_of things first n old → IsOver block_of things first (n + 1) new
  over-more first n x block old new n_in is own first_under second_under before i d a b l = elim (cases_eq i n) [
    | inl same ↦ rw (is-at n i x d n_in same is) (rw own at second_under)
    | inr ne ↦ under-trans (block_of (get_or things i d)) old new (before i d a (omega (arith, b, ne)) l) first_under
  ]

  pub over-all : (first n : ℕ) (block : Block) → (length things ≤ n) ⊎ (first + 8 ≤ n) → IsOver block_of things first n block
      → (i : ℕ) (d : T) → first ≤ i → i < first + 8 → i < length things → IsUnder (block_of (get_or things i d)) block
  over-all first n block (inl end) over i d a b l = over i d a (omega (arith, end, l)) l
  over-all first n block (inr end) over i d a b l = over i d a (omega (arith, end, b)) l

  -- the first blocks of a level
  abbrev pub HasBlocks : List Block → Type 0
  HasBlocks level = (a i : ℕ) (d : T) (e : Block) → a < length level → a * 8 ≤ i → i < a * 8 + 8 → i < length things → IsUnder (block_of (get_or things i d)) (get_or level a e)

  pub blocks-none : (level : List Block) → level ≡ [] → HasBlocks level
  blocks-none level none a i d e l = absurd (omega (arith, subst (λ ls. let m : List Block = ls in a < length m) none l))

  pub blocks-more : (old new : List Block) (block : Block) → new ≡ old ++ block ∷ []
      → ((i : ℕ) (d : T) → length old * 8 ≤ i → i < length old * 8 + 8 → i < length things → IsUnder (block_of (get_or things i d)) block) → HasBlocks old → HasBlocks new
  blocks-more old new block new_is here before a i d e l low high i_in =
      rw new_is (elim (cases_lt a (length old)) [
        | inl less ↦ rw (get_or_append_left old (block ∷ []) e a less) (before a i d e less low high i_in)
        | inr more ↦ (let same : length old ≡ a = omega (arith, more, l_in) in
            rw (get_or_push old block e a same) (here i d (omega (arith, low, same)) (omega (arith, high, same)) i_in))
      ])
    where
      l_in : a < length old + 1
      l_in = subst (λ n. a < n) (length_push old block) (subst (λ ls. let m : List Block = ls in a < length m) new_is l)

  pub level-all : (level : List Block) → length things ≤ length level * 8 → length level * 8 < length things + 8 → HasBlocks level → IsLevelOver block_of things 8 level
  level-all level enough few has = record {
    enough = enough;
    few = few;
    under = λ a i d e low high l. has a i d e (omega (arith, enough, low, l)) low high l;
  }

-- ---- items under the blocks of a level

pub wide : (n : ℕ) → 0 < 8 ^ n
wide zero = omega arith
wide (suc n) = let w = wide n in let e = pow-suc 8 n in omega (arith, w, e)

module _ (items : List Item) (w : ℕ) (lower upper : List Block) (some : 0 < w) (covered : IsLevelOver item_block items w lower) (over : IsLevelOver same_block lower 8 upper) where
  wide_enough : length items ≤ length upper * (w * 8)
  wide_enough =
      let e = covered.enough in
      let f : length lower * w ≤ length upper * 8 * w = mul-le-mul_right w over.enough in
      let ring : length upper * 8 * w ≡ length upper * (w * 8) = omega arith in
      omega (arith, e, f, ring)

  wide_few : length upper * (w * 8) < length items + w * 8
  wide_few =
      let e = covered.few in
      let g = over.few in
      let f : length upper * 8 * w ≤ (length lower + 7) * w = mul-le-mul_right w (omega (arith, g)) in
      let ring : length upper * 8 * w ≡ length upper * (w * 8) = omega arith in
      let more : (length lower + 7) * w ≡ length lower * w + w * 7 = omega arith in
      omega (arith, e, f, ring, more)

  wide_under : (a j : ℕ) (d : Item) (e : Block) → a * (w * 8) ≤ j → j < a * (w * 8) + w * 8 → j < length items → IsUnder (item_block (get_or items j d)) (get_or upper a e)
  wide_under a j d e low high l =
      let at_least : a * 8 * w ≤ j = omega (arith, low) in
      let at_most : j < (a * 8 + 8) * w = omega (arith, high) in
      let within : j < length lower * w = (let f = covered.enough in omega (arith, f, l)) in
      let first : a * 8 ≤ j / w = (le-div_iff_mul-le some).1 at_least in
      let last : j / w < a * 8 + 8 = (div-lt_iff_lt-mul some).1 at_most in
      let known : j / w < length lower = (div-lt_iff_lt-mul some).1 within in
      under-trans (item_block (get_or items j d)) (get_or lower (j / w) e) (get_or upper a e)
      (covered.under (j / w) j d e (div-mul-le_self j w) (lt-div-mul-add some) l)
      (over.under a (j / w) e e first last known)

  pub covered-next : IsLevelOver item_block items (w * 8) upper
  covered-next = record { enough = wide_enough; few = wide_few; under = wide_under }

pub covered-over : (items : List Item) (n : ℕ) (lower upper : List Block) → IsLevelOver item_block items (8 ^ n) lower
    → IsLevelOver same_block lower 8 upper → IsLevelOver item_block items (8 ^ suc n) upper
covered-over items n lower upper covered over = rw (pow-suc 8 n) (covered-next items (8 ^ n) lower upper (wide n) covered over)

pub covered-none : (items : List Item) (levels : List (List Block)) → levels ≡ [] → AreCovered items levels
covered-none items levels none k l = absurd (omega (arith, subst (λ ls. let m : List (List Block) = ls in k < length m) none l))

pub covered-push : (items : List Item) (levels new : List (List Block)) (top : List Block) → new ≡ levels ++ top ∷ []
    → AreCovered items levels → IsLevelOver item_block items (8 ^ suc (length levels)) top → AreCovered items new
covered-push items levels new top new_is covered here k l =
    rw new_is (elim (cases_lt k (length levels)) [
      | inl less ↦ rw (get_or_append_left levels (top ∷ []) [] k less) (covered k less)
      | inr more ↦ (let same : length levels ≡ k = omega (arith, more, l_in) in
          rw (get_or_push levels top [] k same) (subst (λ n. IsLevelOver item_block items (8 ^ suc n) top) same here))
    ])
  where
    l_in : k < length levels + 1
    l_in = subst (λ n. k < n) (length_push levels top) (subst (λ ls. let m : List (List Block) = ls in k < length m) new_is l)

abbrev pub AreHigh : List Item → List (List Block) → Type 0
AreHigh items levels = (k : ℕ) → k < length levels → 8 ^ suc k < length items

pub high-none : (items : List Item) (levels : List (List Block)) → levels ≡ [] → AreHigh items levels
high-none items levels none k l = absurd (omega (arith, subst (λ ls. let m : List (List Block) = ls in k < length m) none l))

pub high-push : (items : List Item) (levels new : List (List Block)) (top : List Block) → new ≡ levels ++ top ∷ [] → AreHigh items levels
    → 8 ^ suc (length levels) < length items → AreHigh items new
high-push items levels new top new_is high here k l = elim (cases_lt k (length levels)) [
  | inl less ↦ high k less
  | inr more ↦ (let same : length levels ≡ k = omega (arith, more, l_in) in subst (λ n. 8 ^ suc n < length items) same here)
]
  where
    l_in : k < length levels + 1
    l_in = subst (λ n. k < n) (length_push levels top) (subst (λ ls. let m : List (List Block) = ls in k < length m) new_is l)

pub index-none : (items : List Item) (levels : List (List Block)) → levels ≡ [] → length items ≤ 8 → IsIndex items levels
index-none items levels none few = record { covered = covered-none items levels none; high = high-none items levels none; narrow = rw none few }

length-new : (levels new : List (List Block)) (top : List Block) → new ≡ levels ++ top ∷ [] → length new ≡ suc (length levels)
length-new levels new top new_is = ap (λ ls. let m : List (List Block) = ls in length m) new_is ∙ (length_push levels top ∙ omega arith)

pub index-push : (items : List Item) (levels new : List (List Block)) (top : List Block) → new ≡ levels ++ top ∷ []
    → AreCovered items levels → AreHigh items levels → IsLevelOver item_block items (8 ^ suc (length levels)) top
    → 8 ^ suc (length levels) < length items → length top ≤ 8 → IsIndex items new
index-push items levels new top new_is covered high here more few = record {
  covered = covered-push items levels new top new_is covered here;
  high = high-push items levels new top new_is high more;
  narrow =
      (let w : ℕ = 8 ^ suc (length levels) in
      let e : length items ≤ length top * w = here.enough in
      let f : length top * w ≤ 8 * w = mul-le-mul_right w few in
      let p : 8 ^ suc (suc (length levels)) ≡ w * 8 = pow-suc 8 (suc (length levels)) in
      subst (λ m. length items ≤ 8 ^ suc m) (sym (length-new levels new top new_is)) (omega (arith, e, f, p)));
}

-- a level of more than eight blocks has another one over it of more than one
pub more-items : (items : List Item) (levels new : List (List Block)) (top : List Block) → new ≡ levels ++ top ∷ []
    → IsLevelOver item_block items (8 ^ suc (length levels)) top → 8 < length top → 8 ^ suc (length new) < length items
more-items items levels new top new_is here many =
    let w : ℕ = 8 ^ suc (length levels) in
    let e : length top * w < length items + w = here.few in
    let f : 9 * w ≤ length top * w = mul-le-mul_right w many in
    let p : 8 ^ suc (suc (length levels)) ≡ w * 8 = pow-suc 8 (suc (length levels)) in
    subst (λ m. 8 ^ suc m < length items) (sym (length-new levels new top new_is)) (omega (arith, e, f, p))

pub covered-higher : (items : List Item) (levels new : List (List Block)) (top next : List Block) → new ≡ levels ++ top ∷ []
    → IsLevelOver item_block items (8 ^ suc (length levels)) top → IsLevelOver same_block top 8 next
    → IsLevelOver item_block items (8 ^ suc (length new)) next
covered-higher items levels new top next new_is covered over =
    subst (λ m. IsLevelOver item_block items (8 ^ suc m) next) (sym (length-new levels new top new_is)) (covered-over items (suc (length levels)) top next covered over)

-- ---- what is barred and what is missed

out-down : (owners : Owners) (item : Item) (block : Block) → IsUnder (item_block item) block → AreLeftOut owners block → IsLeftOut owners item.owner
out-down All item block u out = out
out-down (But k) item block u (a, b) = let l = u.least in let g = u.greatest in omega (arith, a, b, l, g)
out-down (Only k) item block u (inl a) = let l = u.least in λ e. omega (arith, a, l, e)
out-down (Only k) item block u (inr a) = let g = u.greatest in λ e. omega (arith, a, g, e)
out-down (Above k) item block u a = let g = u.greatest in omega (arith, a, g)

apart-down : (window inner outer : Rect) → LiesIn inner outer → LiesApart window outer → LiesApart window inner
apart-down window inner outer u (inl a) = let v = u.right in inl (omega (arith, ints, a, v))
apart-down window inner outer u (inr (inl a)) = let v = u.left in inr (inl (omega (arith, ints, a, v)))
apart-down window inner outer u (inr (inr (inl a))) = let v = u.high in inr (inr (inl (omega (arith, ints, a, v))))
apart-down window inner outer u (inr (inr (inr a))) = let v = u.low in inr (inr (inr (omega (arith, ints, a, v))))

-- a search finds no item of a block in which it finds nothing
pub barred-down : (window : Rect) (owners : Owners) (item : Item) (block : Block) → IsUnder (item_block item) block → IsBarred window owners block → IsMissed window owners item
barred-down window owners item block u (inl a) = inl (apart-down window item.rect block.bounds u.inside a)
barred-down window owners item block u (inr a) = inr (out-down owners item block u a)

missed-out : (owners : Owners) (item : Item) → IsLeftOut owners item.owner → AreLeftOut owners (item_block item)
missed-out All item out = out
missed-out (But k) item out = (out, out)
missed-out (Only k) item out = elim (cases_lt k item.owner) [
  | inl a ↦ inl a
  | inr a ↦ elim (cases_eq item.owner k) [ inl e ↦ absurd (out e) | inr b ↦ inr (omega (arith, a, b)) ]
]
missed-out (Above k) item out = out

pub missed-barred : (window : Rect) (owners : Owners) (item : Item) → IsMissed window owners item → IsBarred window owners (item_block item)
missed-barred window owners item (inl a) = inl a
missed-barred window owners item (inr a) = inr (missed-out owners item a)
