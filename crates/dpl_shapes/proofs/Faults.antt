-- The first fault of a path.
use Rattle.std.proofs.Common.{◌≡◌, ℕ, ◌%◌, ◌<◌, inl, inr, List, length, get_or, ◌∙◌, subst, arith}
use Rattle.std.specs.Prelude.{ℤ, pos, ◌<ℤ◌, unsigned_abs}
use Rattle.std.proofs.lemmas.Int.{ints}
use Rattle.std.proofs.lemmas.List.{get_or_default}
use Rattle.dpl_spec_split.specs.declared.Pt.{Pt}
use Rattle.dpl_spec_split.specs.Loops.{IsLevelOrUpright}
use Rattle.dpl_shapes.specs.Straight.{IsStraightBelow}
use Rattle.dpl_spec_elements.specs.declared.PathFault.{PathFault}
use Rattle.dpl_spec_elements.specs.Paths.{PathElement, Applies, place, IsFirstFault, IsFaultless, distinct, HasSlant, HasTurnBack}
use Rattle.dpl_spec_elements.specs.declared.PathFault.TheVariants.{RoundPath, BadPathType, OddWidth, SlantedPath, PathTurnsBack, NegativeExtension}
use Rattle.dpl_shapes.specs.Types.{IsKnownType, HasNegativeEnd}

-- a path without the first three faults
pub record IsPlain (p : PathElement) : Type 0 where
  pub drawn : p.width ≡ pos 0 → ⊥
  pub known : IsKnownType p.kind
  pub even : unsigned_abs p.width % 2 ≡ 1 → ⊥

-- what the code found, at the numbers that it was passed
pub plain-as : (p : PathElement) (w : ℕ) (k : ℤ) → (p.width ≡ pos 0 → ⊥) → k ≡ p.kind → IsKnownType k → w ≡ unsigned_abs p.width → (w % 2 ≡ 1 → ⊥) → IsPlain p
plain-as p w k drawn k_is known w_is even = record { drawn = drawn; known = subst IsKnownType k_is known; even = subst (λ n. n % 2 ≡ 1 → ⊥) w_is even }

pub no-slant : (qs ps : List Pt) → qs ≡ ps → IsStraightBelow qs (length qs) → HasSlant ps → ⊥
no-slant qs ps same straight (k, p, q, within, p_is, q_is, slanted) =
    let here : IsStraightBelow ps (length ps) = subst (λ l. let m : List Pt = l in IsStraightBelow m (length m)) same straight in
    let a : get_or ps k q ≡ p = get_or_default ps k q p (omega (arith, within)) ∙ p_is in
    slanted (subst (λ x. IsLevelOrUpright x q) a (subst (IsLevelOrUpright (get_or ps k q)) q_is (here k q within)))

plain-round : (p : PathElement) → IsKnownType p.kind → Applies p RoundPath → ⊥
plain-round p (inl k) h = omega (arith, ints, k, h)
plain-round p (inr (inl k)) h = omega (arith, ints, k, h)
plain-round p (inr (inr k)) h = omega (arith, ints, k, h)

plain-bad : (p : PathElement) → IsKnownType p.kind → Applies p BadPathType → ⊥
plain-bad p (inl k) (a, b, c, d) = a k
plain-bad p (inr (inl k)) (a, b, c, d) = c k
plain-bad p (inr (inr k)) (a, b, c, d) = d k

before : (p : PathElement) (n : ℕ) → IsPlain p → (4 < n → Applies p SlantedPath → ⊥) → (5 < n → Applies p PathTurnsBack → ⊥)
    → (6 < n → Applies p NegativeExtension → ⊥) → (g : PathFault) → place g < n → Applies p g → ⊥
before p n plain s t e RoundPath lt h = plain-round p plain.known h
before p n plain s t e BadPathType lt h = plain-bad p plain.known h
before p n plain s t e OddWidth lt h = plain.even h
before p n plain s t e SlantedPath lt h = s lt h
before p n plain s t e PathTurnsBack lt h = t lt h
before p n plain s t e NegativeExtension lt h = e lt h

pub slanted-first : (p : PathElement) → IsPlain p → HasSlant (distinct p.points) → IsFirstFault p SlantedPath
slanted-first p plain slanted = record {
  drawn = plain.drawn;
  there = slanted;
  first = before p 4 plain (λ l. absurd (omega (arith, l))) (λ l. absurd (omega (arith, l))) (λ l. absurd (omega (arith, l)));
}

pub turns-first : (p : PathElement) → IsPlain p → (HasSlant (distinct p.points) → ⊥) → HasTurnBack (distinct p.points) → IsFirstFault p PathTurnsBack
turns-first p plain straight turns = record {
  drawn = plain.drawn;
  there = turns;
  first = before p 5 plain (λ l. straight)
      (λ l. absurd (omega (arith, l))) (λ l. absurd (omega (arith, l)));
}

pub negative-first : (p : PathElement) → IsPlain p → (HasSlant (distinct p.points) → ⊥) → (HasTurnBack (distinct p.points) → ⊥)
    → HasNegativeEnd p.kind p.begin_ext p.end_ext → IsFirstFault p NegativeExtension
negative-first p plain straight on negative = record { drawn = plain.drawn; there = negative; first = before p 6 plain (λ l. straight) (λ l. on) (λ l. absurd (omega (arith, l))) }

pub no-fault : (p : PathElement) → IsPlain p → (HasSlant (distinct p.points) → ⊥) → (HasTurnBack (distinct p.points) → ⊥)
    → (HasNegativeEnd p.kind p.begin_ext p.end_ext → ⊥) → IsFaultless p
no-fault p plain straight on fit = inr (λ f h. before p 7 plain (λ l. straight) (λ l. on) (λ l. fit) f (few f) h)
  where
    few : (f : PathFault) → place f < 7
    few RoundPath = omega arith
    few BadPathType = omega arith
    few OddWidth = omega arith
    few SlantedPath = omega arith
    few PathTurnsBack = omega arith
    few NegativeExtension = omega arith

-- at equal numbers, as those that a call was passed
pub negative-as : (k b e kind begin_ext end_ext : ℤ) → k ≡ kind → b ≡ begin_ext → e ≡ end_ext → HasNegativeEnd k b e → HasNegativeEnd kind begin_ext end_ext
negative-as k b e kind begin_ext end_ext k_is b_is e_is (four, h) = (
  subst (λ n. n ≡ pos 4) k_is four,
  elim h [ inl l ↦ inl (subst (λ n. n <ℤ pos 0) b_is l) | inr l ↦ inr (subst (λ n. n <ℤ pos 0) e_is l) ],
)
