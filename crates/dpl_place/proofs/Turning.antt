-- Quarter turns, reflections and moves of points.
use Rattle.std.proofs.Common.{◌≡◌, ℕ, zero, suc, ◌+◌, ◌-◌, ◌%◌, ◌<◌, inl, inr, refl, sym, ap, ◌∙◌, arith}
use Rattle.std.specs.Prelude.{ℤ, ◌+ℤ◌, if◌then◌else◌}
use Rattle.std.proofs.lemmas.Int.{ints}
use Rattle.std.proofs.lemmas.Bool.{cases_lt}
use Rattle.dpl_spec_split.specs.declared.Pt.{Pt}
use Rattle.dpl_spec_elements.specs.Motions.{Motion, reflected, quarter_turned, turned, moved, image}

pub same_point : (p q : Pt) → p.x ≡ q.x → p.y ≡ q.y → p ≡ q
same_point p q x y = λ i. record { x = x i; y = y i }

pub turned-four : (p : Pt) → turned 4 p ≡ p
turned-four p = same_point (turned 4 p) p (omega (arith, ints)) (omega (arith, ints))

pub turned-add : (a b : ℕ) (p : Pt) → turned (a + b) p ≡ turned a (turned b p)
turned-add zero b p = let e : 0 + b ≡ b = omega arith in ap (λ n. turned n p) e
turned-add (suc a) b p = let e : suc a + b ≡ suc (a + b) = omega arith in ap (λ n. turned n p) e ∙ ap quarter_turned (turned-add a b p)

-- whole turns change nothing
pub turned-mod : (n : ℕ) (p : Pt) → n < 8 → turned n p ≡ turned (n % 4) p
turned-mod n p few = elim (cases_lt n 4) [
  | inl l ↦ (let e : n ≡ n % 4 = omega arith in ap (λ k. turned k p) e)
  | inr m ↦ (let k : ℕ = n - 4 in
      let e : n ≡ 4 + k = omega arith in
      let f : k ≡ n % 4 = omega arith in
      ap (λ j. turned j p) e ∙ (turned-add 4 k p ∙ (turned-four (turned k p) ∙ ap (λ j. turned j p) f)))
]

pub reflected-twice : (p : Pt) → reflected (reflected p) ≡ p
reflected-twice p = same_point (reflected (reflected p)) p refl (omega (arith, ints))

-- a reflection turns the other way round
reflected-turned_0 : (p : Pt) → reflected (turned 0 p) ≡ turned 4 (reflected p)
reflected-turned_0 p = sym (turned-four (reflected p))

reflected-turned_1 : (p : Pt) → reflected (turned 1 p) ≡ turned 3 (reflected p)
reflected-turned_1 p = same_point (reflected (turned 1 p)) (turned 3 (reflected p)) (omega (arith, ints)) (omega (arith, ints))

reflected-turned_2 : (p : Pt) → reflected (turned 2 p) ≡ turned 2 (reflected p)
reflected-turned_2 p = same_point (reflected (turned 2 p)) (turned 2 (reflected p)) (omega (arith, ints)) (omega (arith, ints))

reflected-turned_3 : (p : Pt) → reflected (turned 3 p) ≡ turned 1 (reflected p)
reflected-turned_3 p = same_point (reflected (turned 3 p)) (turned 1 (reflected p)) (omega (arith, ints)) (omega (arith, ints))

pub reflected-turned : (n : ℕ) (p : Pt) → n < 4 → reflected (turned n p) ≡ turned (4 - n) (reflected p)
reflected-turned zero p few = reflected-turned_0 p
reflected-turned (suc zero) p few = reflected-turned_1 p
reflected-turned (suc (suc zero)) p few = reflected-turned_2 p
reflected-turned (suc (suc (suc zero))) p few = reflected-turned_3 p
reflected-turned (suc (suc (suc (suc n)))) p few = absurd (omega (arith, few))

-- turns and reflections of moved points
pub turned-moved : (n : ℕ) (v p : Pt) → turned n (moved v.x v.y p) ≡ moved (turned n v).x (turned n v).y (turned n p)
turned-moved zero v p = refl
turned-moved (suc n) v p =
    ap quarter_turned (turned-moved n v p)
    ∙ same_point (quarter_turned (moved (turned n v).x (turned n v).y (turned n p))) (moved (turned (suc n) v).x (turned (suc n) v).y (turned (suc n) p)) (omega (arith, ints)) refl

pub reflected-moved : (v p : Pt) → reflected (moved v.x v.y p) ≡ moved (reflected v).x (reflected v).y (reflected p)
reflected-moved v p = same_point (reflected (moved v.x v.y p)) (moved (reflected v).x (reflected v).y (reflected p)) refl (omega (arith, ints))

pub moved-moved : (v w p : Pt) → moved v.x v.y (moved w.x w.y p) ≡ moved (moved v.x v.y w).x (moved v.x v.y w).y p
moved-moved v w p = same_point (moved v.x v.y (moved w.x w.y p)) (moved (moved v.x v.y w).x (moved v.x v.y w).y p) (omega (arith, ints)) (omega (arith, ints))

-- an image, step by step
pub image-steps : (m : Motion) (p q r : Pt) (x y : ℤ) → q ≡ (if m.reflect then reflected p else p) → r ≡ turned m.turns q → x ≡ r.x +ℤ m.dx
    → y ≡ r.y +ℤ m.dy → record { x = x; y = y } ≡ image m p
image-steps m p q r x y q_is r_is x_is y_is =
    let whole : Pt = record { x = x; y = y } in
    same_point whole (moved m.dx m.dy r) x_is y_is ∙ ap (moved m.dx m.dy) (r_is ∙ ap (turned m.turns) q_is)

-- the image under an equal motion of an equal point
pub image-same : (at : Pt) (m n : Motion) (a b x y : ℤ) → at ≡ image m (record { x = a; y = b }) → m ≡ n → a ≡ x → b ≡ y → at ≡ image n (record { x = x; y = y })
image-same at m n a b x y is same x_is y_is = is ∙ (ap (λ k. image k (record { x = a; y = b })) same ∙ ap (image n) (λ i. record { x = x_is i; y = y_is i }))
