use Rattle.std.specs.Prelude.{ℤ, ◌≤ℤ◌, ◌<ℤ◌}
use lib.Signed.{lt_z}
use Rattle.std.proofs.Common.{◌≡◌, ◌∙◌, true, false, sym, ap, rules, w32, FitsSigned, arith}
use Rattle.std.proofs.lemmas.Int.{ints, to_z-of_z}
use Rattle.std.proofs.lemmas.Bool.{false≢true}
use mir.Val.{to_z}
use Rattle.dpl_slabs.proofs.row.is_beside.Goals as goal

lt-true : (a b : ℤ) → lt_z a b ≡ true → a <ℤ b
lt-true a b h = grind (arith, ints)

lt-false : (a b : ℤ) → lt_z a b ≡ false → b ≤ℤ a
lt-false a b h = grind (arith, ints)

lt-test : (a b : ℤ) → a <ℤ b → lt_z a b ≡ true
lt-test a b h = grind (arith, ints)

pub returns-then-r : goal.returns-then-r
returns-then-r c =
    let first = c.args.first.now in
    let r = c.args.r.now in
    let left : FitsSigned w32 r.x0 = search rules in
    let right : FitsSigned w32 r.x1 = search rules in
    let low : FitsSigned w32 r.y0 = search rules in
    let high : FitsSigned w32 r.y1 = search rules in
    let start : FitsSigned w32 first.y0 = search rules in
    let end : FitsSigned w32 first.y1 = search rules in
    let wide = lt-true _ _ (rw (to_z-of_z w32 r.x0 left, to_z-of_z w32 r.x1 right) at c.if-r.true) in
    rw (to_z-of_z w32 r.y0 low, to_z-of_z w32 r.y1 high) (
      (λ t. (
        record { wide = wide; tall = lt-true _ _ t },
        record {
          low = sym (rw (to_z-of_z w32 r.y0 low, to_z-of_z w32 first.y0 start) at (ap (to_z w32) c.if-r-first.false));
          high = sym (rw (to_z-of_z w32 r.y1 high, to_z-of_z w32 first.y1 end) at (ap (to_z w32) c.if-r-first-2.false));
        },
      )),
      λ (solid, level). lt-test _ _ solid.tall,
    )

pub returns-else-r : goal.returns-else-r
returns-else-r c =
    let r = c.args.r.now in
    let left : FitsSigned w32 r.x0 = search rules in
    let right : FitsSigned w32 r.x1 = search rules in
    let over = lt-false r.x0 r.x1 (rw (to_z-of_z w32 r.x0 left, to_z-of_z w32 r.x1 right) at c.if-r.false) in
    (λ t. absurd (false≢true (sym c.if-r.false ∙ t)), λ (solid, level). absurd (let wide = solid.wide in omega (arith, ints, over, wide)))
