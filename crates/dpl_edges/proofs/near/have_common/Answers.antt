use Rattle.std.proofs.Common.{◌≡◌, ◌<ℤ◌, ℤ, true, false, refl, arith, rules, w32, w64}
use Rattle.std.specs.Int.RustNames.{FitsSigned}
use Rattle.std.specs.Int.Signed.{le_z}
use Rattle.std.proofs.lemmas.Bool.{false≢true}
use Rattle.std.proofs.lemmas.Int.{ints, to_z-of_z}
use Rattle.dpl_edges.proofs.near.have_common.Goals as goal

more : (a b : ℤ) → le_z a b ≡ false → b <ℤ a
more a b e = omega (arith, ints)

never : (a b : ℤ) → le_z a b ≡ true → b <ℤ a → ⊥
never a b e h = omega (arith, ints)

pub returns-then-r-x0 : goal.returns-then-r-x0
returns-then-r-x0 c =
    let short : FitsSigned w32 c.args.r.now.x1 = search rules in
    let long : FitsSigned w64 c.args.r.now.x1 = search rules in
    let end : FitsSigned w64 c.x0.result = search rules in
    let beyond = rw (to_z-of_z w32 _ short, to_z-of_z w64 _ long, to_z-of_z w64 _ end, c.x0.ensures) at c.if-r-x0.true in
    (λ t. absurd (false≢true t), λ h. absurd (never _ _ beyond h.left))

pub returns-then-x1-r : goal.returns-then-x1-r
returns-then-x1-r c =
    let short : FitsSigned w32 c.args.r.now.x0 = search rules in
    let long : FitsSigned w64 c.args.r.now.x0 = search rules in
    let end : FitsSigned w64 c.x1.result = search rules in
    let beyond = rw (to_z-of_z w64 _ end, to_z-of_z w32 _ short, to_z-of_z w64 _ long, c.x1.ensures) at c.if-x1-r.true in
    (λ t. absurd (false≢true t), λ h. absurd (never _ _ beyond h.right))

pub returns-then-r-y0 : goal.returns-then-r-y0
returns-then-r-y0 c =
    let short : FitsSigned w32 c.args.r.now.y1 = search rules in
    let long : FitsSigned w64 c.args.r.now.y1 = search rules in
    let end : FitsSigned w64 c.y0.result = search rules in
    let beyond = rw (to_z-of_z w32 _ short, to_z-of_z w64 _ long, to_z-of_z w64 _ end, c.y0.ensures) at c.if-r-y0.true in
    (λ t. absurd (false≢true t), λ h. absurd (never _ _ beyond h.low))

pub returns-then-y1-r : goal.returns-then-y1-r
returns-then-y1-r c =
    let short : FitsSigned w32 c.args.r.now.y0 = search rules in
    let long : FitsSigned w64 c.args.r.now.y0 = search rules in
    let end : FitsSigned w64 c.y1.result = search rules in
    let beyond = rw (to_z-of_z w64 _ end, to_z-of_z w32 _ short, to_z-of_z w64 _ long, c.y1.ensures) at c.if-y1-r.true in
    (λ t. absurd (false≢true t), λ h. absurd (never _ _ beyond h.high))

pub returns : goal.returns
returns c = (
  λ t. (let f : FitsSigned w32 c.args.r.now.x1 = search rules in
      let g : FitsSigned w64 c.args.r.now.x1 = search rules in
      let h : FitsSigned w64 c.x0.result = search rules in
      let i : FitsSigned w32 c.args.r.now.x0 = search rules in
      let j : FitsSigned w64 c.args.r.now.x0 = search rules in
      let k : FitsSigned w64 c.x1.result = search rules in
      let l : FitsSigned w32 c.args.r.now.y1 = search rules in
      let m : FitsSigned w64 c.args.r.now.y1 = search rules in
      let n : FitsSigned w64 c.y0.result = search rules in
      let o : FitsSigned w32 c.args.r.now.y0 = search rules in
      let p : FitsSigned w64 c.args.r.now.y0 = search rules in
      let q : FitsSigned w64 c.y1.result = search rules in
      record {
        left = more _ _ (rw (to_z-of_z w32 _ f, to_z-of_z w64 _ g, to_z-of_z w64 _ h, c.x0.ensures) at c.if-r-x0.false);
        right = more _ _ (rw (to_z-of_z w64 _ k, to_z-of_z w32 _ i, to_z-of_z w64 _ j, c.x1.ensures) at c.if-x1-r.false);
        low = more _ _ (rw (to_z-of_z w32 _ l, to_z-of_z w64 _ m, to_z-of_z w64 _ n, c.y0.ensures) at c.if-r-y0.false);
        high = more _ _ (rw (to_z-of_z w64 _ q, to_z-of_z w32 _ o, to_z-of_z w64 _ p, c.y1.ensures) at c.if-y1-r.false);
      }),
  λ h. refl,
)
