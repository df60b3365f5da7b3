-- Trees whose root is the least of their leaves.
use Rattle.std.proofs.Common.{◌≡◌, ◌≢◌, ◌+◌, ◌-◌, ◌*◌, ◌/◌, ◌<◌, ◌≤◌, ℕ, zero, suc, List, length, set, inl, inr, refl, sym, ap, subst, ◌∙◌, arith}
use Rattle.std.specs.Prelude.{◌⊎◌, Option, None, Some, MatchOption}
use Rattle.std.proofs.lemmas.Bool.{cases_lt}
use Rattle.std.proofs.lemmas.List.{get_or-set_other, get_or-set_same}
use Rattle.dpl_board.specs.declared.tournament.Tournament.{Tournament}
use Rattle.dpl_board.specs.Tournaments.{HasLeast, IsAtMost, IsBefore, IsLesser, IsLesserAt, IsTournament, leaf_in, node_in}

at-most-more : (a b c : ℕ × ℕ) → IsAtMost a b → IsAtMost b c → IsAtMost a c
at-most-more a b c (inl h) (inl k) = inl (omega (arith, h, k))
at-most-more a b c (inl h) (inr k) = inl (let e = k.0 in omega (arith, h, e))
at-most-more a b c (inr h) (inl k) = inl (let e = h.0 in omega (arith, e, k))
at-most-more a b c (inr h) (inr k) = inr (h.0 ∙ k.0, (let e = h.1 in let f = k.1 in omega (arith, e, f)))

pub before-same : (b : Option (ℕ × ℕ)) → IsBefore b b
before-same None = tt
before-same (Some x) = inr (refl, omega arith)

before-more : (a b c : Option (ℕ × ℕ)) → IsBefore a b → IsBefore b c → IsBefore a c
before-more a b None h k = tt
before-more a None (Some c) h k = absurd k
before-more None (Some b) (Some c) h k = absurd h
before-more (Some a) (Some b) (Some c) h k = at-most-more a b c h k

before-none : (b : Option (ℕ × ℕ)) → IsBefore None b → b ≡ None
before-none None h = refl
before-none (Some b) h = absurd h

half-of : (n : ℕ) → (n ≡ 2 * (n / 2)) ⊎ (n ≡ 2 * (n / 2) + 1)
half-of n = elim (cases_lt (2 * (n / 2)) n) [
  | inl odd ↦ inr (omega (arith, odd))
  | inr even ↦ inl (omega (arith, even))
]

module _ (t : Tournament) (is : IsTournament t) where
  abbrev nodes : List (Option (ℕ × ℕ))
  nodes = t.nodes.items

  -- the root is before every node
  root-before : (fuel n : ℕ) → n ≤ fuel → 1 ≤ n → n < t.leaves + t.leaves → IsBefore (node_in nodes 1) (node_in nodes n)
  root-before zero n l some within = absurd (omega (arith, l, some))
  root-before (suc fuel) n l some within = elim (cases_lt 1 n) [
    | inr one ↦ (let e : 1 ≡ n = omega (arith, some, one) in subst (λ k. IsBefore (node_in nodes 1) (node_in nodes k)) e (before-same (node_in nodes 1)))
    | inl more ↦
        let p = n / 2 in
        let up : IsBefore (node_in nodes 1) (node_in nodes p) = root-before fuel p (omega (arith, l, more)) (omega (arith, more)) (omega (arith, within, more)) in
        let at = is.each p (omega (arith, more)) (omega (arith, within)) in
        before-more (node_in nodes 1) (node_in nodes p) (node_in nodes n) up (elim (half-of n) [
          | inl even ↦ subst (λ k. IsBefore (node_in nodes p) (node_in nodes k)) (sym even) at.1
          | inr odd ↦ subst (λ k. IsBefore (node_in nodes p) (node_in nodes k)) (sym odd) at.2
        ])
  ]

  -- what a node has some leaf has
  leaf-below : (fuel n : ℕ) (b : ℕ × ℕ) → t.leaves + t.leaves ≤ n + fuel → 1 ≤ n → n < t.leaves + t.leaves → node_in nodes n ≡ Some b
      → (leaf : ℕ) × (leaf < t.leaves) × (leaf_in t leaf ≡ Some b)
  leaf-below zero n b l some within at = absurd (omega (arith, l, within))
  leaf-below (suc fuel) n b l some within at = elim (cases_lt n t.leaves) [
    | inr past ↦ (
        let e : t.leaves + (n - t.leaves) ≡ n = omega (arith, past) in
        (n - t.leaves, omega (arith, past, within), ap (node_in nodes) e ∙ at)
        )
    | inl inner ↦ elim (is.each n some inner).0 [
      | inl left ↦ leaf-below fuel (2 * n) b (omega (arith, l, some)) (omega (arith, some)) (omega (arith, inner)) (sym left ∙ at)
      | inr right ↦ leaf-below fuel (2 * n + 1) b (omega (arith, l, some)) (omega (arith, some)) (omega (arith, inner)) (sym right ∙ at)
    ]
  ]

  least-by : (root : Option (ℕ × ℕ)) → 0 < t.leaves → root ≡ node_in nodes 1
      → MatchOption root ((leaf : ℕ) → leaf < t.leaves → leaf_in t leaf ≡ None) (λ block. HasLeast t block)
  least-by None some e = λ leaf l. before-none (leaf_in t leaf)
      (subst (λ b. IsBefore b (leaf_in t leaf)) (sym e) (root-before (t.leaves + leaf) (t.leaves + leaf) (omega arith) (omega (arith, some)) (omega (arith, l))))
  least-by (Some b) some e = (
    leaf-below (t.leaves + t.leaves) 1 b (omega arith) (omega arith) (omega (arith, some)) (sym e),
    λ leaf other l at. subst (λ c. IsBefore (Some b) c) at
        (subst (λ r. IsBefore r (leaf_in t leaf)) (sym e) (root-before (t.leaves + leaf) (t.leaves + leaf) (omega arith) (omega (arith, some)) (omega (arith, l)))),
  )

  pub least-leaf : 0 < t.leaves → MatchOption (node_in nodes 1) ((leaf : ℕ) → leaf < t.leaves → leaf_in t leaf ≡ None) (λ block. HasLeast t block)
  least-leaf some = least-by (node_in nodes 1) some refl

-- a node that is neither n nor one of the two below it changes nothing there
pub lesser-else : (nodes : List (Option (ℕ × ℕ))) (at n : ℕ) (b : Option (ℕ × ℕ)) → n ≢ at → 2 * n ≢ at → 2 * n + 1 ≢ at → IsLesserAt nodes n → IsLesserAt (set nodes at b) n
lesser-else nodes at n b here left right is =
    rw (get_or-set_other nodes at n b None here, get_or-set_other nodes at (2 * n) b None left, get_or-set_other nodes at (2 * n + 1) b None right) is

-- the lesser of the two below a node stands there
pub lesser-here : (nodes : List (Option (ℕ × ℕ))) (at : ℕ) (b : Option (ℕ × ℕ)) → 1 ≤ at → at < length nodes → IsLesser b (node_in nodes (2 * at)) (node_in nodes (2 * at + 1))
    → IsLesserAt (set nodes at b) at
lesser-here nodes at b some within is =
    let left : 2 * at ≢ at = λ e. omega (arith, e, some) in
    let right : 2 * at + 1 ≢ at = λ e. omega (arith, e) in
    rw (get_or-set_same nodes at b None within, get_or-set_other nodes at (2 * at) b None left, get_or-set_other nodes at (2 * at + 1) b None right) is
