-- The members of parts of a list.
use Rattle.std.proofs.Common.{ℕ, zero, suc, true, false, inl, inr, List, [], ◌∷◌, take, drop, subst}
use Rattle.std.specs.Prelude.{if◌then◌else◌}
use Rattle.std.specs.List.{Contains}
use Rattle.dpl_spec_split.specs.declared.Pt.{Pt}
use Rattle.dpl_spec_split.proofs.Ordered.{Contains-head, Contains-later, Contains-nil, Contains-cases}
use Rattle.dpl_spec_elements.specs.Paths.{same_point, distinct_after, distinct}

pub Contains-drop : (n : ℕ) (ps : List Pt) (p : Pt) → Contains (drop n ps) p → Contains ps p
Contains-drop zero ps p h = h
Contains-drop (suc n) [] p h = h
Contains-drop (suc n) (q ∷ ps) p h = Contains-later q p ps (Contains-drop n ps p h)

pub Contains-take : (n : ℕ) (ps : List Pt) (p : Pt) → Contains (take n ps) p → Contains ps p
Contains-take zero ps p h = absurd (Contains-nil p h)
Contains-take (suc n) [] p h = h
Contains-take (suc n) (q ∷ ps) p h = elim (Contains-cases q p (take n ps) h) [
  | inl same ↦ subst (Contains (q ∷ ps)) same (Contains-head q ps)
  | inr later ↦ Contains-later q p ps (Contains-take n ps p later)
]

Contains-distinct_after : (q : Pt) (ps : List Pt) (p : Pt) → Contains (distinct_after q ps) p → Contains ps p
Contains-distinct_after q [] p h = h
Contains-distinct_after q (r ∷ ps) p h =
    (elim (same_point q r) as (λ b. Contains (if b then distinct_after q ps else r ∷ distinct_after r ps) p → Contains (r ∷ ps) p) [
      | true ↦ λ k. Contains-later r p ps (Contains-distinct_after q ps p k)
      | false ↦ λ k. elim (Contains-cases r p (distinct_after r ps) k) [
        | inl same ↦ subst (Contains (r ∷ ps)) same (Contains-head r ps)
        | inr later ↦ Contains-later r p ps (Contains-distinct_after r ps p later)
      ]
    ]) h

pub Contains-distinct : (ps : List Pt) (p : Pt) → Contains (distinct ps) p → Contains ps p
Contains-distinct [] p h = h
Contains-distinct (q ∷ ps) p h = elim (Contains-cases q p (distinct_after q ps) h) [
  | inl same ↦ subst (Contains (q ∷ ps)) same (Contains-head q ps)
  | inr later ↦ Contains-later q p ps (Contains-distinct_after q ps p later)
]
