-- Elements that a loop adds.
use Rattle.std.proofs.Common.{◌≡◌, ℕ, ◌+◌, ◌<◌, ◌≤◌, inl, inr, List, [], subst, arith}
use Rattle.std.specs.Prelude.{◌↔◌}
use Rattle.std.specs.List.{Contains}
use Rattle.std.proofs.lemmas.Bool.{cases_eq, cases_lt}
use Rattle.dpl_tile.specs.Adding.{Adds}

-- of one of the first n kinds
abbrev pub OfFirst : {X : Type 0} → (ℕ → X → Type 0) → ℕ → X → Type 0
OfFirst Kind n e = (m : ℕ) × (m < n) × Kind m e

pub adds-none : {X : Type 0} (Kind : ℕ → X → Type 0) (n : ℕ) (xs : List X) → ((m : ℕ) (e : X) → m < n → Kind m e → ⊥) → Adds (OfFirst Kind n) xs xs
adds-none Kind n xs none e = (λ h. inl h, λ h. elim h [ inl a ↦ a | inr (m, l, k) ↦ absurd (none m e l k) ])

-- one kind more, and none between it and the next
pub adds-next : {X : Type 0} (Kind : ℕ → X → Type 0) (n next : ℕ) (base old new : List X) → n < next → ((m : ℕ) (e : X) → n + 1 ≤ m → m < next → Kind m e → ⊥)
    → Adds (OfFirst Kind n) base old → Adds (Kind n) old new → Adds (OfFirst Kind next) base new
adds-next Kind n next base old new on none before step e = (
  λ h. elim ((step e).0 h) [
    | inl a ↦ elim ((before e).0 a) [ inl b ↦ inl b | inr (m, l, k) ↦ inr (m, omega (arith, l, on), k) ]
    | inr k ↦ inr (n, on, k)
  ],
  λ h. elim h [
    | inl b ↦ (step e).1 (inl ((before e).1 (inl b)))
    | inr (m, l, k) ↦ elim (cases_eq m n) [
      | inl same ↦ (step e).1 (inr (subst (λ i. Kind i e) same k))
      | inr ne ↦ elim (cases_lt m n) [
        | inl less ↦ (step e).1 (inl ((before e).1 (inr (m, less, k))))
        | inr more ↦ absurd (none m e (omega (arith, ne, more)) l k)
      ]
    ]
  ],
)

pub adds-same : {X : Type 0} (Kind Other : X → Type 0) (old new : List X) → ((e : X) → Kind e ↔ Other e) → Adds Kind old new → Adds Other old new
adds-same Kind Other old new same h e = (
  λ c. elim ((h e).0 c) [ inl a ↦ inl a | inr k ↦ inr ((same e).0 k) ],
  λ c. elim c [ inl a ↦ (h e).1 (inl a) | inr k ↦ (h e).1 (inr ((same e).1 k)) ],
)

-- the new list may have its elements in another order, and each less often
pub adds-members : {X : Type 0} (Kind : X → Type 0) (old more new : List X) → ((e : X) → Contains new e ↔ Contains more e) → Adds Kind old more → Adds Kind old new
adds-members Kind old more new same h e = (λ c. (h e).0 ((same e).0 c), λ k. (same e).1 ((h e).1 k))

pub added-to_none : {X : Type 0} (Kind : X → Type 0) (none new : List X) → none ≡ [] → Adds Kind none new → (e : X) → Contains new e ↔ Kind e
added-to_none Kind none new is h e = (
  λ c. elim ((h e).0 c) [ inl a ↦ absurd (let (m, m_in, same) = subst (λ xs. Contains xs e) is a in omega (arith, m_in)) | inr k ↦ k ],
  λ k. (h e).1 (inr k),
)
