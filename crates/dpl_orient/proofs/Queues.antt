-- Links in order, and the queue of components.
use Rattle.std.proofs.Common.{◌≡◌, ℕ, zero, suc, ◌+◌, ◌-◌, ◌<◌, ◌≤◌, ◌⊎◌, inl, inr, Option, Bool, true, false, eqb, ltb, leb, List, [], ◌∷◌, length, get_or, take, drop, filter, sym, refl, ap, ◌∙◌, arith}
use Rattle.std.specs.List.Sorted.{IsPermutation, IsPartitionPoint}
use Rattle.std.specs.BinaryHeap.{IsUpperBound}
use Rattle.std.specs.Ordering.{nat_cmp}
use Rattle.std.specs.declared.cmp.Reverse.{Reverse}
use Rattle.std.proofs.lemmas.Bool.{cases_lt, eq-eqb, ne_eqb, ltb-true, ltb-false, leb-true, leb-false, cond-true, cond-false}
use Rattle.std.proofs.lemmas.List.{get_or_past}
use Rattle.std.proofs.lemmas.List.Elements.{All-head}
use Rattle.std.proofs.lemmas.List.Sorted.{Contains-permutation, le_from_greatest}
use Rattle.dpl_spec_split.proofs.Ordered.{Contains-head, Contains-later, Contains-cases}
use Rattle.dpl_orient.specs.declared.links.Link.{Link}
use Rattle.dpl_orient.specs.declared.tallies.Tally.{Tally}
use Rattle.dpl_orient.specs.Tallies.{tally_at, GainsAt, Waits}

-- what a range of a list has that passes, where nothing outside does and all in it does
pub filter-range : {X : Type 0} (p : X → Bool) (xs : List X) (lo n : ℕ) → ((i : ℕ) (d : X) → i < lo → i < length xs → p (get_or xs i d) ≡ false)
    → ((i : ℕ) (d : X) → lo ≤ i → i < lo + n → i < length xs → p (get_or xs i d) ≡ true)
    → ((i : ℕ) (d : X) → lo + n ≤ i → i < length xs → p (get_or xs i d) ≡ false) → take n (drop lo xs) ≡ filter p xs
filter-range p [] zero zero before in_it after = refl
filter-range p [] zero (suc n) before in_it after = refl
filter-range p [] (suc lo) zero before in_it after = refl
filter-range p [] (suc lo) (suc n) before in_it after = refl
filter-range p (x ∷ xs) zero zero before in_it after =
    let here : p x ≡ false = after 0 x (omega arith) (omega arith) in
    let rest = filter-range p xs zero zero (λ i d l m. absurd (omega (arith, l))) (λ i d le l m. absurd (omega (arith, l))) (λ i d le l. after
    (suc i) d (omega arith) (omega (arith, l))) in
    rest ∙ sym (cond-false (p x) (x ∷ filter p xs) (filter p xs) here)
filter-range p (x ∷ xs) zero (suc n) before in_it after =
    let here : p x ≡ true = in_it 0 x (omega arith) (omega arith) (omega arith) in
    let rest = filter-range p xs zero n (λ i d l m. absurd (omega (arith, l))) (λ i d le l m. in_it (suc i) d (omega arith) (omega (arith, l)) (omega
    (arith, m)))
    (λ i d le l. after (suc i) d (omega (arith, le)) (omega (arith, l))) in
    ap (λ ys. x ∷ ys) rest ∙ sym (cond-true (p x) (x ∷ filter p xs) (filter p xs) here)
filter-range p (x ∷ xs) (suc lo) n before in_it after =
    let here : p x ≡ false = before 0 x (omega arith) (omega arith) in
    let rest = filter-range p xs lo n (λ i d l m. before (suc i) d (omega (arith, l)) (omega (arith, m)))
    (λ i d le l m. in_it (suc i) d (omega (arith, le)) (omega (arith, l)) (omega (arith, m)))
    (λ i d le l. after (suc i) d (omega (arith, le)) (omega (arith, l))) in
    rest ∙ sym (cond-false (p x) (x ∷ filter p xs) (filter p xs) here)

module _ (links : List Link) (root lo hi : ℕ) (start : IsPartitionPoint (λ (y : Link). ltb y.from root ≡ true) (λ
    (y : Link). ltb y.from root ≡ false) links lo)
    (end : IsPartitionPoint (λ (y : Link). leb y.from root ≡ true) (λ (y : Link). leb y.from root ≡ false) links hi) (within : lo ≤ length links) where
  no_link : Link
  no_link = record { from = 0; to = 0; odd = false }

  -- the links from one component stand between those from lower ones and those from higher ones
  pub ends-in-order : lo ≤ hi
  ends-in-order = elim (cases_lt hi lo) [
    | inl l ↦ absurd (let a = ltb-true _ _ (start.0 hi no_link (omega arith) l) in let b = leb-false _ _ (end.1 hi no_link (omega arith) (omega
        (arith, l, within))) in omega (arith, a, b))
    | inr m ↦ m
  ]

  pub range-filter : take (hi - lo) (drop lo links) ≡ filter (λ (l : Link). eqb l.from root) links
  range-filter =
      let up = ends-in-order in
      filter-range (λ (l : Link). eqb l.from root) links lo (hi - lo)
      (λ i d l m. ne_eqb _ _ (λ e. (let a = ltb-true _ _ (start.0 i d (omega arith) l) in omega (arith, a, e))))
      (λ i d le l m. eq-eqb _ _ (let a = ltb-false _ _ (start.1 i d le m) in let b = leb-true _ _ (end.0 i d (omega arith) (omega (arith, l, up))) in
      omega (arith, a, b)))
      (λ i d le m. ne_eqb _ _ (λ e. (let a = leb-false _ _ (end.1 i d (omega (arith, le, up)) m) in omega (arith, a, e))))

-- what waits still waits where one more does
pub waits-more : (xs ys : List (Reverse ℕ)) (x : Reverse ℕ) → IsPermutation (x ∷ xs) ys → (r : ℕ) → Waits xs r → Waits ys r
waits-more xs ys x same r h = Contains-permutation (x ∷ xs) ys (record { 0 = r }) same (Contains-later x (record { 0 = r }) xs h)

pub waits-new : (xs ys : List (Reverse ℕ)) (r : ℕ) → IsPermutation (record { 0 = r } ∷ xs) ys → Waits ys r
waits-new xs ys r same = Contains-permutation (record { 0 = r } ∷ xs) ys (record { 0 = r }) same (Contains-head (record { 0 = r }) xs)

-- what waits is taken, or still waits
pub waits-rest : (xs ys : List (Reverse ℕ)) (x r : ℕ) → IsPermutation xs (record { 0 = x } ∷ ys) → Waits xs r → (x ≡ r) ⊎ Waits ys r
waits-rest xs ys x r same h = elim (Contains-cases (record { 0 = x }) (record { 0 = r }) ys (Contains-permutation xs (record { 0 = x } ∷ ys)
    (record { 0 = r }) same h)) [
      | inl e ↦ inl (let f : record { 0 = x } ≡ record { 0 = r } = e in ap (λ (y : Reverse ℕ). y.0) f)
      | inr w ↦ inr w
    ]

one-least : (x r : ℕ) → IsUpperBound (λ (a b : Reverse ℕ). nat_cmp b.0 a.0) (record { 0 = x }) (record { 0 = r } ∷ []) → x ≤ r
one-least x r h = All-head (λ y. y ≤ r) x [] (le_from_greatest r (x ∷ []) h)

-- a component that gains has a tally
pub gains-within : (held : Option ℕ) (tallies : List Tally) (root : ℕ) → GainsAt held tallies root → root < length tallies
gains-within held tallies root g = elim (cases_lt root (length tallies)) [
  | inl below ↦ below
  | inr past ↦ absurd (let t : tally_at tallies root ≡ record { differing = 0; agreeing = 0 } = get_or_past tallies root (record { differing = 0; agreeing = 0 }) past in
      let d : (tally_at tallies root).differing ≡ 0 = ap (λ x. x.differing) t in
      let f = g.fewer in
      omega (arith, d, f))
]
