use Rattle.std.proofs.Common.{◌≡◌, true, false, refl, ap, rules, w32, FitsSigned, arith}
use Rattle.std.specs.Prelude.{ℤ, ◌≤ℤ◌, ◌<ℤ◌}
use lib.Signed.{le_z, lt_z}
use mir.Val.{to_z}
use Rattle.std.proofs.lemmas.Bool.{false≢true}
use Rattle.std.proofs.lemmas.Int.{ints, to_z-of_z}
use Rattle.dpl_order.proofs.join.continues.Goals as goal

lt-true : (a b : ℤ) → lt_z a b ≡ true → a <ℤ b
lt-true a b h = grind (arith, ints)

lt-test : (a b : ℤ) → a <ℤ b → lt_z a b ≡ true
lt-test a b h = grind (arith, ints)

le-true : (a b : ℤ) → le_z a b ≡ true → a ≤ℤ b
le-true a b h = grind (arith, ints)

le-false : (a b : ℤ) → le_z a b ≡ false → b <ℤ a
le-false a b h = grind (arith, ints)

tall-flat : (low high : ℤ) → low <ℤ high → high ≤ℤ low → ⊥
tall-flat low high l m = omega (arith, ints, l, m)

pub returns-then-piece-last : goal.returns-then-piece-last
returns-then-piece-last c = (λ t. absurd (false≢true t), λ w. absurd (c.if-piece-last.true (rw w.on.row refl)))

pub returns-then-piece-last-2 : goal.returns-then-piece-last-2
returns-then-piece-last-2 c = (λ t. absurd (false≢true t), λ w. absurd (c.if-piece-last-2.true (rw w.on.left refl)))

pub returns-then-piece-last-3 : goal.returns-then-piece-last-3
returns-then-piece-last-3 c = (λ t. absurd (false≢true t), λ w. absurd (c.if-piece-last-3.true (rw w.on.right refl)))

pub returns-then-piece : goal.returns-then-piece
returns-then-piece c =
    let low : FitsSigned w32 c.args.piece.now.y0 = search rules in
    let high : FitsSigned w32 c.args.piece.now.y1 = search rules in
    let flat = le-true c.args.piece.now.y1 c.args.piece.now.y0 (rw (to_z-of_z w32 c.args.piece.now.y1 high, to_z-of_z w32 c.args.piece.now.y0 low) at c.if-piece.true) in
    (λ t. absurd (false≢true t), λ w. absurd (tall-flat _ _ w.high flat))

pub returns : goal.returns
returns c =
    let last = c.args.last.now in
    let piece = c.args.piece.now in
    let low : FitsSigned w32 last.y0 = search rules in
    let high : FitsSigned w32 last.y1 = search rules in
    let left : FitsSigned w32 last.x0 = search rules in
    let right : FitsSigned w32 last.x1 = search rules in
    let next : FitsSigned w32 piece.y0 = search rules in
    let top : FitsSigned w32 piece.y1 = search rules in
    let first : FitsSigned w32 piece.x0 = search rules in
    let end : FitsSigned w32 piece.x1 = search rules in
    rw (to_z-of_z w32 last.y0 low, to_z-of_z w32 last.y1 high) (
      (λ t. record {
        on = record {
          row = rw (to_z-of_z w32 piece.y0 next, to_z-of_z w32 last.y1 high) at (ap (to_z w32) c.if-piece-last.false);
          left = rw (to_z-of_z w32 piece.x0 first, to_z-of_z w32 last.x0 left) at (ap (to_z w32) c.if-piece-last-2.false);
          right = rw (to_z-of_z w32 piece.x1 end, to_z-of_z w32 last.x1 right) at (ap (to_z w32) c.if-piece-last-3.false);
        };
        low = lt-true _ _ t;
        high = le-false _ _ (rw (to_z-of_z w32 piece.y1 top, to_z-of_z w32 piece.y0 next) at c.if-piece.false);
      }),
      λ w. lt-test _ _ w.low,
    )
