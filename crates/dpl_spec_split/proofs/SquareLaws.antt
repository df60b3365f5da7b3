-- Distance is symmetric, and a set has one least square.
use Rattle.std.proofs.Common.{◌≡◌, ℕ, ◌*◌, ◌<◌, inl, inr, sym, ◌∙◌, subst, arith}
use Rattle.std.specs.Prelude.{ℤ, pos, ◌+ℤ◌, ◌≤ℤ◌}
use Rattle.std.proofs.lemmas.Int.{ints}
use Rattle.dpl_spec_split.specs.declared.Spacing.{Spacing}
use Rattle.dpl_spec_split.specs.declared.Pt.{Pt}
use Rattle.dpl_spec_split.specs.Squares.{Region, SameSquares, Precedes, IsLeast, gap, d2, Touch, TooFew, Near, AreNear}

pub gap-sym : (i j : ℤ) → gap i j ≡ gap j i
gap-sym i j = omega (arith, ints)

pub d2-sym : (p q : Pt) → d2 p q ≡ d2 q p
d2-sym p q = rw (gap-sym p.x q.x, gap-sym p.y q.y)

pub Touch-sym : (p q : Pt) → Touch p q → Touch q p
Touch-sym p q h = d2-sym q p ∙ h

pub Near-sym : (spacing : Spacing) (p q : Pt) → Near spacing p q → Near spacing q p
Near-sym spacing p q near = subst (λ n. TooFew spacing n (gap q.y p.y)) (gap-sym p.x q.x) (subst (λ n. TooFew spacing (gap p.x q.x) n) (gap-sym p.y q.y) near)

pub far-sym : (spacing : Spacing) (p q : Pt) → ¬ Near spacing p q → ¬ Near spacing q p
far-sym spacing p q far near = far (Near-sym spacing q p near)

pub AreNear-sym : (spacing : Spacing) (a b : Region) → AreNear spacing a b → AreNear spacing b a
AreNear-sym spacing a b (p, q, in_a, in_b, near) = (q, p, in_b, in_a, Near-sym spacing p q near)

pub Precedes-strict : (p q : Pt) → Precedes p q → Precedes q p → ⊥
Precedes-strict p q (inl l) (inl m) = omega (arith, ints)
Precedes-strict p q (inl l) (inr m) = omega (arith, ints)
Precedes-strict p q (inr l) (inl m) = omega (arith, ints)
Precedes-strict p q (inr l) (inr m) = omega (arith, ints)

pub IsLeast-unique : (a b : Region) (p q : Pt) → SameSquares a b → IsLeast a p → IsLeast b q → p ≡ q
IsLeast-unique a b p q same l m =
    elim (l.first q ((same q).1 m.inside)) [
      | inl e ↦ e
      | inr before ↦ elim (m.first p ((same p).0 l.inside)) [
        | inl e ↦ sym e
        | inr after ↦ absurd (Precedes-strict p q before after)
      ]
    ]

pub SameSquares-refl : (a : Region) → SameSquares a a
SameSquares-refl a p = (λ h. h, λ h. h)

pub SameSquares-sym : (a b : Region) → SameSquares a b → SameSquares b a
SameSquares-sym a b same p = ((same p).1, (same p).0)

pub SameSquares-trans : (a b c : Region) → SameSquares a b → SameSquares b c → SameSquares a c
SameSquares-trans a b c s t p = (λ h. (t p).0 ((s p).0 h), λ h. (s p).1 ((t p).1 h))

-- closed squares touch exactly where neither their columns nor their rows are more than one apart
pub Touch-from_close : (p q : Pt) → q.x ≤ℤ (p.x +ℤ pos 1) → p.x ≤ℤ (q.x +ℤ pos 1) → q.y ≤ℤ (p.y +ℤ pos 1) → p.y ≤ℤ (q.y +ℤ pos 1) → Touch p q
Touch-from_close p q a b c d =
    let x : gap p.x q.x ≡ 0 = omega (arith, ints) in
    let y : gap p.y q.y ≡ 0 = omega (arith, ints) in
    rw (x, y)
