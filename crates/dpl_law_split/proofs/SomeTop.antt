-- A library has a top, or a reason why it has none: its roots can be listed.
use Rattle.std.proofs.Common.{◌≡◌, ◌≢◌, ℕ, zero, suc, ◌+◌, ◌<◌, ◌≤◌, ⊎_elim, inl, inr, List, [], ◌∷◌, length, get_or, Option, Some, None, refl, sym, ap, subst, arith}
use Rattle.std.specs.Prelude.{◌⊎◌}
use Rattle.std.specs.List.{AllPairs, Contains}
use Rattle.std.proofs.lemmas.Bool.{cases_lt, cases_eq}
use Rattle.std.proofs.lemmas.List.Elements.{Contains-get_or}
use Rattle.std.proofs.lemmas.List.Kept.{AllPairs-cons}
use Rattle.std.proofs.lemmas.Option.{slice_get_cases}
use Rattle.dpl_spec_split.proofs.Ordered.{Contains-head, Contains-later, Contains-cases, Contains-nil}
use Rattle.dpl_spec_format.specs.Tree.{Library, Element, elements_or_none, elements_at}
use Rattle.dpl_spec_layout.specs.declared.TopFault.{TopFault}
use Rattle.dpl_spec_layout.specs.declared.TopFault.TheVariants.{NoMemory, NoTop, ManyTops}
use Rattle.dpl_spec_layout.specs.Structures.{structure_named, target_of, Refers, AreRoots, IsTop, IsTopFault}

target-decided : (o : Option ℕ) (k : ℕ) → (o ≡ Some k) ⊎ (o ≡ Some k → ⊥)
target-decided None k = inr (λ e. cc)
target-decided (Some m) k = ⊎_elim (λ (e : m ≡ k). inl (ap (λ n. Some n) e)) (λ (n : m ≡ k → ⊥). inr (λ e. n cc)) (cases_eq m k)

-- a top is there, or a reason why none is
abbrev pub HasTopOrFault : Library → Option (List ℕ) → Type 0
HasTopOrFault lib name = ((k : ℕ) × IsTop lib name k) ⊎ ((f : TopFault) × (f ≢ NoMemory) × IsTopFault lib name f)

module _ (lib : Library) (k : ℕ) where
  -- one of these elements refers to structure k
  abbrev AreReferring : List Element → Type 0
  AreReferring es = (e : Element) × Contains es e × (target_of lib e ≡ Some k)

  elements-decided : (es : List Element) → AreReferring es ⊎ (AreReferring es → ⊥)
  elements-decided [] = inr (λ (e, e_in, is). Contains-nil e e_in)
  elements-decided (e ∷ es) = elim (target-decided (target_of lib e) k) [
    | inl is ↦ inl (e, Contains-head e es, is)
    | inr not ↦ elim (elements-decided es) [
      | inl found ↦ inl (found.0, Contains-later e found.0 es found.1, found.2)
      | inr none ↦ inr (λ (d, d_in, is). elim (Contains-cases e d es d_in) [
        | inl same ↦ not (subst (λ (x : Element). target_of lib x ≡ Some k) (sym same) is)
        | inr later ↦ none (d, later, is)
      ])
    ]
  ]

  below-decided : (n : ℕ) → ((j : ℕ) × Refers lib j k) ⊎ ((j : ℕ) → j < n → Refers lib j k → ⊥)
  below-decided zero = inr (λ j l r. absurd (omega (arith, l)))
  below-decided (suc n) = elim (elements-decided (elements_at lib n)) [
    | inl found ↦ inl (n, found)
    | inr none ↦ elim (below-decided n) [
      | inl found ↦ inl found
      | inr before ↦ inr (λ j l r. elim (cases_lt j n) [
        | inl m ↦ before j m r
        | inr m ↦ none (let same : j ≡ n = omega (arith, l, m) in subst (λ i. Refers lib i k) same r)
      ])
    ]
  ]

  past-end : (j : ℕ) → length lib.structures ≤ j → Refers lib j k → ⊥
  past-end j past (e, e_in, is) = elim (slice_get_cases lib.structures j).1 [
    | inl there ↦ absurd (omega (arith, past, there.1))
    | inr none ↦ Contains-nil e (subst (λ o. Contains (elements_or_none o) e) none.1 e_in)
  ]

  root-decided : ((j : ℕ) × Refers lib j k) ⊎ ((j : ℕ) → Refers lib j k → ⊥)
  root-decided = elim (below-decided (length lib.structures)) [
    | inl found ↦ inl found
    | inr none ↦ inr (λ j r. elim (cases_lt j (length lib.structures)) [ inl l ↦ none j l r | inr past ↦ past-end j past r ])
  ]

later : (m k : ℕ) → m ≤ k → (m ≡ k → ⊥) → suc m ≤ k
later m k low other = ⊎_elim (λ (l : m < k). omega (arith, l)) (λ (l : k ≤ m). absurd (other (omega (arith, low, l)))) (cases_lt m k)

-- the roots from structure m on, where n are left
pub record AreRootsFrom (lib : Library) (m n : ℕ) (roots : List ℕ) : Type 0 where
  pub ordered : AllPairs (λ i j. i < j) roots
  pub from : (k : ℕ) → Contains roots k → m ≤ k
  pub sound : (k : ℕ) → Contains roots k → (k < m + n) × ((j : ℕ) → Refers lib j k → ⊥)
  pub complete : (k : ℕ) → m ≤ k → k < m + n → ((j : ℕ) → Refers lib j k → ⊥) → Contains roots k

module _ (lib : Library) where
  roots-from : (n m : ℕ) → (roots : List ℕ) × AreRootsFrom lib m n roots
  roots-from zero m = (
    [],
    record {
      ordered = λ i j d l within. absurd (omega (arith, within));
      from = λ k k_in. absurd (Contains-nil k k_in);
      sound = λ k k_in. absurd (Contains-nil k k_in);
      complete = λ k low high free. absurd (omega (arith, low, high));
    },
  )
  roots-from (suc n) m = let (rest, are) = roots-from n (suc m) in elim (root-decided lib m) [
    | inl (j, refers) ↦ (
      rest,
      record {
        ordered = are.ordered;
        from = λ k k_in. let l = are.from k k_in in omega (arith, l);
        sound = λ k k_in. let s = are.sound k k_in in (let l = s.0 in omega (arith, l), s.1);
        complete = λ k low high free. elim (cases_eq m k) [
          | inl same ↦ absurd (free j (subst (λ i. Refers lib j i) same refers))
          | inr other ↦ are.complete k (later m k low other) (omega (arith, high)) free
        ];
      },
    )
    | inr free ↦ (
      m ∷ rest,
      record {
        ordered = AllPairs-cons (λ i j. i < j) m rest (λ i d l. let s = are.from (get_or rest i d) (Contains-get_or rest i d l) in omega (arith, s)) are.ordered;
        from = λ k k_in. elim (Contains-cases m k rest k_in) [ inl same ↦ omega (arith, same) | inr more ↦ (let l = are.from k more in omega (arith, l)) ];
        sound = λ k k_in. elim (Contains-cases m k rest k_in) [
          | inl same ↦ (omega (arith, same), subst (λ i. (j : ℕ) → Refers lib j i → ⊥) same free)
          | inr more ↦ (let s = are.sound k more in (let l = s.0 in omega (arith, l), s.1))
        ];
        complete = λ k low high none. elim (cases_eq m k) [
          | inl same ↦ subst (λ i. Contains (m ∷ rest) i) same (Contains-head m rest)
          | inr other ↦ Contains-later m k rest (are.complete k (later m k low other) (omega (arith, high)) none)
        ];
      },
    )
  ]

  roots-listed : (roots : List ℕ) × AreRoots lib roots
  roots-listed = let (roots, are) = roots-from (length lib.structures) 0 in (
    roots,
    record {
      ordered = are.ordered;
      exactly = λ k. (
        λ k_in. let s = are.sound k k_in in record { known = (let l = s.0 in omega (arith, l)); unreferred = s.1 },
        λ root. are.complete k (omega arith) (let l = root.known in omega (arith, l)) root.unreferred,
      );
    },
  )

  by-roots : (roots : List ℕ) → AreRoots lib roots → HasTopOrFault lib None
  by-roots [] are = inr (NoTop, (λ e. cc), are)
  by-roots (k ∷ []) are = inl (k, are)
  by-roots (j ∷ k ∷ more) are = inr (ManyTops (length (j ∷ k ∷ more)), (λ e. cc), (omega arith, (j ∷ k ∷ more, are, refl)))

  by-name : (name : List ℕ) (o : Option ℕ) → structure_named lib name ≡ o → HasTopOrFault lib (Some name)
  by-name name None is = inr (NoTop, (λ e. cc), is)
  by-name name (Some k) is = inl (k, is)

  pub some-top : (name : Option (List ℕ)) → HasTopOrFault lib name
  some-top None = let (roots, are) = roots-listed in by-roots roots are
  some-top (Some name) = by-name name (structure_named lib name) refl
