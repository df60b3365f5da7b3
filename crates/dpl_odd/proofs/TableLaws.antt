-- The least level edge of each component, edge by edge.
use Rattle.std.proofs.Common.{◌≡◌, ℕ, ◌+◌, ◌<◌, inl, inr, Option, Some, None, List, set, length, get_or, sym, ap, subst, ◌∙◌, arith}
use Rattle.std.specs.Prelude.{IfSome}
use Rattle.std.proofs.lemmas.Bool.{cases_eq}
use Rattle.std.proofs.lemmas.List.{length-set, get_or-set_same, get_or-set_other}
use Rattle.dpl_stars.specs.Levels.{AreEdgesBelow}
use Rattle.dpl_odd.specs.Paths.{IsLevel, IsNotAfter, IsLesser, slanted, first, older, newer, edge_at}
use Rattle.dpl_odd.specs.Tables.{IsLeastBelow, AreLeastLevels}
use Rattle.dpl_odd.proofs.LevelLaws.{next_edge, not-after_trans, itself}

-- an edge that isn't level, or lies in another component
kept : (roots levels : List ℕ) (edges : List (ℕ × ℕ)) (n root : ℕ) (e : ℕ × ℕ) → edge_at edges n ≡ e
    → (IsLevel levels e → get_or roots e.0 0 ≡ root → ⊥) → (old : Option (ℕ × ℕ)) → IsLeastBelow roots levels edges n root old → IsLeastBelow roots levels edges (n + 1) root old
kept roots levels edges n root e is beside None h = next_edge edges (λ x. IsLevel levels x → get_or roots x.0 0 ≡ root → ⊥) n e is h beside
kept roots levels edges n root e is beside (Some f) h = record {
  member = (let (k, l, at) = h.member in (k, omega (arith, l), at));
  level = h.level;
  below = h.below;
  least = next_edge edges (λ x. IsLevel levels x → get_or roots x.0 0 ≡ root → IsNotAfter roots f x) n e is h.least (λ level same. absurd (beside level same));
}

-- an edge of this component
changed : (roots levels : List ℕ) (edges : List (ℕ × ℕ)) (n root : ℕ) (e : ℕ × ℕ) {old new : Option (ℕ × ℕ)} → edge_at edges n ≡ e → get_or roots e.0 0 ≡ root
    → IsLesser roots levels e old new → IsLeastBelow roots levels edges n root old → IsLeastBelow roots levels edges (n + 1) root new
changed roots levels edges n root e is here (slanted {old = old} ne) h = kept roots levels edges n root e is (λ level same. ne level) old h
changed roots levels edges n root e is here (first same) h = record {
  member = (n, omega arith, is);
  level = same;
  below = here;
  least = next_edge edges (λ x. IsLevel levels x → get_or roots x.0 0 ≡ root → IsNotAfter roots e x) n e is
      (λ k l level at. absurd (h k l level at)) (λ level at. itself roots e);
}
changed roots levels edges n root e is here (older {f = f} same before) h = record {
  member = (let (k, l, at) = h.member in (k, omega (arith, l), at));
  level = h.level;
  below = h.below;
  least = next_edge edges (λ x. IsLevel levels x → get_or roots x.0 0 ≡ root → IsNotAfter roots f x) n e is h.least (λ level at. before);
}
changed roots levels edges n root e is here (newer {f = f} same before) h = record {
  member = (n, omega arith, is);
  level = same;
  below = here;
  least = next_edge edges (λ x. IsLevel levels x → get_or roots x.0 0 ≡ root → IsNotAfter roots e x) n e is
      (λ k l level at. not-after_trans roots e f (edge_at edges k) before (h.least k l level at)) (λ level at. itself roots e);
}

pub table-step : (roots levels : List ℕ) (edges : List (ℕ × ℕ)) (n root : ℕ) (e : ℕ × ℕ) (least more : List (Option (ℕ × ℕ))) (old new : Option (ℕ × ℕ))
    → edge_at edges n ≡ e → get_or roots e.0 0 ≡ root → root < length least → old ≡ get_or least root None → IsLesser roots levels e old new
    → more ≡ set least root new → AreLeastLevels roots levels edges n least → AreLeastLevels roots levels edges (n + 1) more
table-step roots levels edges n root e least more old new is here root_in was lesser now h =
    let len : length more ≡ length least = ap (λ xs. let ys : List (Option (ℕ × ℕ)) = xs in length ys) now ∙ length-set least root new in
    record {
      as_many = len ∙ h.as_many;
      each = λ r l. elim (cases_eq r root) [
        | inl same ↦
            let at : new ≡ get_or more r None = sym (ap (λ xs. get_or xs r None) now ∙ (ap (λ k. get_or (set least root new) k None) same ∙ get_or-set_same least root new None root_in)) in
            let before : IsLeastBelow roots levels edges n r old = subst (λ o. IsLeastBelow roots levels edges n r o)
            (ap (λ k. get_or least k None) same ∙ sym was) (h.each r (omega (arith, l, len))) in
            subst (λ o. IsLeastBelow roots levels edges (n + 1) r o) at (changed roots levels edges n r e is (here ∙ sym same) lesser before)
        | inr ne ↦
            let at : get_or least r None ≡ get_or more r None = sym (ap (λ xs. get_or xs r None) now ∙ get_or-set_other least root r new None ne) in
            subst (λ o. IsLeastBelow roots levels edges (n + 1) r o) at
            (kept roots levels edges n r e is (λ level other. ne (sym other ∙ here)) (get_or least r None) (h.each r (omega (arith, l, len))))
      ];
    }

inside : (roots levels : List ℕ) (edges : List (ℕ × ℕ)) (n m root : ℕ) → AreEdgesBelow m edges → n < length edges + 1 → (o : Option (ℕ × ℕ))
    → IsLeastBelow roots levels edges n root o → IfSome o (λ e. e.0 < m)
inside roots levels edges n m root b l None h = tt
inside roots levels edges n m root b l (Some e) h =
    let (k, k_in, at) = h.member in
    let (order, high) = b k (0, 0) (omega (arith, k_in, l)) in
    subst (λ (x : ℕ × ℕ). x.0 < m) at (omega (arith, order, high))
