-- Two sets have one nearest pair.
use Rattle.std.proofs.Common.{◌≡◌, inl, inr, sym, subst}
use Rattle.dpl_spec_split.specs.declared.Spacing.{Spacing}
use Rattle.dpl_spec_split.specs.declared.Pt.{Pt}
use Rattle.dpl_spec_split.specs.Squares.{Region, Precedes}
use Rattle.dpl_spec_split.proofs.SquareLaws.{Precedes-strict}
use Rattle.dpl_nearest.specs.Nearest.{IsNearestPair}

not-before : (p q : Pt) → p ≡ q → Precedes p q → ⊥
not-before p q e before = let itself : Precedes q q = subst (λ r. Precedes r q) e before in Precedes-strict q q itself itself

pub nearest-unique : (spacing : Spacing) (a b : Region) (p q r s : Pt) → IsNearestPair spacing a b p q → IsNearestPair spacing a b r s → (p ≡ r) × (q ≡ s)
nearest-unique spacing a b p q r s h k = elim (h.least r s k.are) [
  | inl before ↦ elim (k.least p q h.are) [
    | inl after ↦ absurd (Precedes-strict p r before after)
    | inr (e, upto) ↦ absurd (not-before p r (sym e) before)
  ]
  | inr (e, inl f) ↦ (e, f)
  | inr (e, inr before) ↦ elim (k.least p q h.are) [
    | inl after ↦ absurd (not-before r p (sym e) after)
    | inr (g, inl f) ↦ (e, sym f)
    | inr (g, inr after) ↦ absurd (Precedes-strict q s before after)
  ]
]
