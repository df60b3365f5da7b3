use Rattle.std.proofs.Common.{◌≡◌, ◌≤ℤ◌, ℤ, true, false, inl, inr, refl, arith, rules, w32, w64}
use Rattle.std.specs.Int.RustNames.{FitsSigned}
use Rattle.std.specs.Int.Signed.{le_z}
use Rattle.std.proofs.lemmas.Bool.{false≢true}
use Rattle.std.proofs.lemmas.Int.{ints, to_z-of_z}
use Rattle.dpl_tree.proofs.window.lies_apart.Goals as goal

is-le : (a b : ℤ) → le_z a b ≡ true → a ≤ℤ b
is-le a b e = omega (arith, ints)

pub returns-then-r-x0 : goal.returns-then-r-x0
returns-then-r-x0 c =
    let f : FitsSigned w32 c.args.r.now.x1 = search rules in
    let g : FitsSigned w64 c.args.r.now.x1 = search rules in
    let h : FitsSigned w64 c.x0.result = search rules in
    (λ t. inl (is-le _ _ (rw (to_z-of_z w32 _ f, to_z-of_z w64 _ g, to_z-of_z w64 _ h, c.x0.ensures) at c.if-r-x0.true)), λ a. refl)

pub returns-then-x1-r : goal.returns-then-x1-r
returns-then-x1-r c =
    let f : FitsSigned w32 c.args.r.now.x0 = search rules in
    let g : FitsSigned w64 c.args.r.now.x0 = search rules in
    let h : FitsSigned w64 c.x1.result = search rules in
    (λ t. inr (inl (is-le _ _ (rw (to_z-of_z w64 _ h, to_z-of_z w32 _ f, to_z-of_z w64 _ g, c.x1.ensures) at c.if-x1-r.true))), λ a. refl)

pub returns-then-r-y0 : goal.returns-then-r-y0
returns-then-r-y0 c =
    let f : FitsSigned w32 c.args.r.now.y1 = search rules in
    let g : FitsSigned w64 c.args.r.now.y1 = search rules in
    let h : FitsSigned w64 c.y0.result = search rules in
    (λ t. inr (inr (inl (is-le _ _ (rw (to_z-of_z w32 _ f, to_z-of_z w64 _ g, to_z-of_z w64 _ h, c.y0.ensures) at c.if-r-y0.true)))), λ a. refl)

pub returns-then-y1-r : goal.returns-then-y1-r
returns-then-y1-r c =
    let f : FitsSigned w32 c.args.r.now.y0 = search rules in
    let g : FitsSigned w64 c.args.r.now.y0 = search rules in
    let h : FitsSigned w64 c.y1.result = search rules in
    (λ t. inr (inr (inr (is-le _ _ (rw (to_z-of_z w64 _ h, to_z-of_z w32 _ f, to_z-of_z w64 _ g, c.y1.ensures) at c.if-y1-r.true)))), λ a. refl)

not-le : (a b : ℤ) → le_z a b ≡ false → a ≤ℤ b → ⊥
not-le a b e h = omega (arith, ints)

pub returns : goal.returns
returns c = (
  λ t. absurd (false≢true t),
  λ apart. absurd (elim apart [
    | inl a ↦ (let f : FitsSigned w32 c.args.r.now.x1 = search rules in
        let g : FitsSigned w64 c.args.r.now.x1 = search rules in
        let h : FitsSigned w64 c.x0.result = search rules in
        not-le _ _ (rw (to_z-of_z w32 _ f, to_z-of_z w64 _ g, to_z-of_z w64 _ h, c.x0.ensures) at c.if-r-x0.false) a)
    | inr (inl a) ↦ (let f : FitsSigned w32 c.args.r.now.x0 = search rules in
        let g : FitsSigned w64 c.args.r.now.x0 = search rules in
        let h : FitsSigned w64 c.x1.result = search rules in
        not-le _ _ (rw (to_z-of_z w64 _ h, to_z-of_z w32 _ f, to_z-of_z w64 _ g, c.x1.ensures) at c.if-x1-r.false) a)
    | inr (inr (inl a)) ↦ (let f : FitsSigned w32 c.args.r.now.y1 = search rules in
        let g : FitsSigned w64 c.args.r.now.y1 = search rules in
        let h : FitsSigned w64 c.y0.result = search rules in
        not-le _ _ (rw (to_z-of_z w32 _ f, to_z-of_z w64 _ g, to_z-of_z w64 _ h, c.y0.ensures) at c.if-r-y0.false) a)
    | inr (inr (inr a)) ↦ (let f : FitsSigned w32 c.args.r.now.y0 = search rules in
        let g : FitsSigned w64 c.args.r.now.y0 = search rules in
        let h : FitsSigned w64 c.y1.result = search rules in
        not-le _ _ (rw (to_z-of_z w64 _ h, to_z-of_z w32 _ f, to_z-of_z w64 _ g, c.y1.ensures) at c.if-y1-r.false) a)
  ]),
)
