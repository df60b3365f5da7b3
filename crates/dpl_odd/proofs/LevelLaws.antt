-- The least level edge of a list, edge by edge.
use Rattle.std.proofs.Common.{◌≡◌, ℕ, ◌+◌, ◌<◌, ◌⊎◌, inl, inr, Option, Some, None, List, length, get_or, sym, refl, ap, subst, ◌∙◌, arith}
use Rattle.std.specs.Prelude.{IfSome}
use Rattle.std.proofs.lemmas.Bool.{cases_eq}
use Rattle.std.proofs.lemmas.List.{get_or_read}
use Rattle.dpl_spec_split.specs.Graphs.{Precedes}
use Rattle.dpl_odd.specs.Paths.{IsLevel, IsNotAfter, IsLesser, slanted, first, older, newer, edge_at, IsLeastLevel}

precedes_trans : (e f g : ℕ × ℕ) → Precedes e f → Precedes f g → Precedes e g
precedes_trans e f g (inl a) (inl b) = inl (omega arith)
precedes_trans e f g (inl a) (inr b) = inl (omega arith)
precedes_trans e f g (inr a) (inl b) = inl (omega arith)
precedes_trans e f g (inr a) (inr b) = inr (a.0 ∙ b.0, omega arith)

same_or_before : (e f g : ℕ × ℕ) → (e ≡ f) ⊎ Precedes e f → (f ≡ g) ⊎ Precedes f g → (e ≡ g) ⊎ Precedes e g
same_or_before e f g (inl a) (inl b) = inl (a ∙ b)
same_or_before e f g (inl a) (inr b) = inr (subst (λ (x : ℕ × ℕ). Precedes x g) (sym a) b)
same_or_before e f g (inr a) (inl b) = inr (subst (λ (x : ℕ × ℕ). Precedes e x) b a)
same_or_before e f g (inr a) (inr b) = inr (precedes_trans e f g a b)

pub not-after_trans : (roots : List ℕ) (e f g : ℕ × ℕ) → IsNotAfter roots e f → IsNotAfter roots f g → IsNotAfter roots e g
not-after_trans roots e f g (inl a) (inl b) = inl (omega arith)
not-after_trans roots e f g (inl a) (inr (b, p)) = inl (omega arith)
not-after_trans roots e f g (inr (a, p)) (inl b) = inl (omega arith)
not-after_trans roots e f g (inr (a, p)) (inr (b, q)) = inr (a ∙ b, same_or_before e f g p q)

-- what holds of the first edges and of the next
pub next_edge : (edges : List (ℕ × ℕ)) (P : ℕ × ℕ → Type 0) (n : ℕ) (e : ℕ × ℕ) → edge_at edges n ≡ e → ((k : ℕ) → k < n → P (edge_at edges k))
    → P e → (k : ℕ) → k < n + 1 → P (edge_at edges k)
next_edge edges P n e is all h k l = elim (cases_eq k n) [
  | inl same ↦ subst P (sym (ap (λ j. edge_at edges j) same ∙ is)) h
  | inr ne ↦ all k (omega (arith, l, ne))
]

step_slanted : (roots levels : List ℕ) (edges : List (ℕ × ℕ)) (n : ℕ) (e : ℕ × ℕ) → edge_at edges n ≡ e → (IsLevel levels e → ⊥)
    → (old : Option (ℕ × ℕ)) → IsLeastLevel roots levels edges n old → IsLeastLevel roots levels edges (n + 1) old
step_slanted roots levels edges n e is ne None h = next_edge edges (λ x. IsLevel levels x → ⊥) n e is h ne
step_slanted roots levels edges n e is ne (Some f) h = record {
  member = (let (k, l, at) = h.member in (k, omega (arith, l), at));
  level = h.level;
  least = next_edge edges (λ x. IsLevel levels x → IsNotAfter roots f x) n e is h.least (λ same. absurd (ne same));
}

pub itself : (roots : List ℕ) (e : ℕ × ℕ) → IsNotAfter roots e e
itself roots e = inr (refl, inl refl)

pub level-step : (roots levels : List ℕ) (edges : List (ℕ × ℕ)) (n : ℕ) (e : ℕ × ℕ) {old new : Option (ℕ × ℕ)} → edge_at edges n ≡ e
    → IsLesser roots levels e old new → IsLeastLevel roots levels edges n old → IsLeastLevel roots levels edges (n + 1) new
level-step roots levels edges n e is (slanted {old = old} ne) h = step_slanted roots levels edges n e is ne old h
level-step roots levels edges n e is (first same) h = record {
  member = (n, omega arith, is);
  level = same;
  least = next_edge edges (λ x. IsLevel levels x → IsNotAfter roots e x) n e is (λ k l level. absurd (h k l level)) (λ level. itself roots e);
}
level-step roots levels edges n e is (older {f = f} same before) h = record {
  member = (let (k, l, at) = h.member in (k, omega (arith, l), at));
  level = h.level;
  least = next_edge edges (λ x. IsLevel levels x → IsNotAfter roots f x) n e is h.least (λ level. before);
}
level-step roots levels edges n e is (newer {f = f} same before) h = record {
  member = (n, omega arith, is);
  level = same;
  least = next_edge edges (λ x. IsLevel levels x → IsNotAfter roots e x) n e is
      (λ k l level. not-after_trans roots e f (edge_at edges k) before (h.least k l level)) (λ level. itself roots e);
}

-- the least edge so far is one of two
pub lesser-inside : (roots levels : List ℕ) (n : ℕ) (e : ℕ × ℕ) {old new : Option (ℕ × ℕ)} → IsLesser roots levels e old new → e.0 < n
    → IfSome old (λ f. f.0 < n) → IfSome new (λ f. f.0 < n)
lesser-inside roots levels n e (slanted ne) l h = h
lesser-inside roots levels n e (first same) l h = l
lesser-inside roots levels n e (older same before) l h = h
lesser-inside roots levels n e (newer same before) l h = l

-- what was read at two places is the same exactly where the places hold the same
pub same-read : (xs : List ℕ) (a b x y : ℕ) → a < length xs → b < length xs → x ≡ get_or xs a x → y ≡ get_or xs b y → x ≡ y → get_or xs a 0 ≡ get_or xs b 0
same-read xs a b x y a_in b_in left right e = sym (get_or_read xs a x a_in left 0) ∙ (e ∙ get_or_read xs b y b_in right 0)

pub differ-read : (xs : List ℕ) (a b x y : ℕ) → a < length xs → b < length xs → x ≡ get_or xs a x → y ≡ get_or xs b y → (x ≡ y → ⊥) → get_or xs a 0 ≡ get_or xs b 0 → ⊥
differ-read xs a b x y a_in b_in left right ne e = ne (get_or_read xs a x a_in left 0 ∙ (e ∙ sym (get_or_read xs b y b_in right 0)))
