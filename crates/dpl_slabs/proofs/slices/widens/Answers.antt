use Rattle.std.proofs.Common.{refl, rules, w32, FitsSigned, arith, ◌≡◌, true, false, ap}
use Rattle.std.proofs.lemmas.Bool.{false≢true}
use Rattle.std.proofs.lemmas.Int.{ints, to_z-of_z}
use Rattle.std.specs.Prelude.{ℤ, ◌≤ℤ◌}
use lib.Signed.{le_z, lt_z}
use mir.Val.{to_z}
use Rattle.dpl_slabs.proofs.GapLaws.{le-true}
use Rattle.dpl_slabs.proofs.slices.widens.Goals as goal

pub returns-then-last-bar : goal.returns-then-last-bar
returns-then-last-bar c = (λ t. absurd (false≢true t), λ w. absurd (c.if-last-bar.true (rw w.low refl)))

pub returns-then-last-bar-2 : goal.returns-then-last-bar-2
returns-then-last-bar-2 c = (λ t. absurd (false≢true t), λ w. absurd (c.if-last-bar-2.true (rw w.high refl)))

pub returns-then-bar-last : goal.returns-then-bar-last
returns-then-bar-last c =
    let next : FitsSigned w32 c.args.bar.now.x0 = search rules in
    let first : FitsSigned w32 c.args.last.now.x0 = search rules in
    let test = rw (to_z-of_z w32 c.args.bar.now.x0 next, to_z-of_z w32 c.args.last.now.x0 first) at c.if-bar-last.true in
    (λ t. absurd (false≢true t), λ w. absurd (let after = w.after in grind (arith, ints, test, after)))

lt-false : (a b : ℤ) → lt_z a b ≡ false → b ≤ℤ a
lt-false a b h = grind (arith, ints)

le-test : (a b : ℤ) → a ≤ℤ b → le_z a b ≡ true
le-test a b h = grind (arith, ints)

pub returns : goal.returns
returns c =
    let last = c.args.last.now in
    let bar = c.args.bar.now in
    let first : FitsSigned w32 last.x0 = search rules in
    let next : FitsSigned w32 bar.x0 = search rules in
    let end : FitsSigned w32 last.x1 = search rules in
    let low : FitsSigned w32 last.y0 = search rules in
    let low_too : FitsSigned w32 bar.y0 = search rules in
    let high : FitsSigned w32 last.y1 = search rules in
    let high_too : FitsSigned w32 bar.y1 = search rules in
    let test = rw (to_z-of_z w32 bar.x0 next, to_z-of_z w32 last.x0 first) at c.if-bar-last.false in
    rw (to_z-of_z w32 bar.x0 next, to_z-of_z w32 last.x1 end) (
      (λ t. record {
        low = rw (to_z-of_z w32 last.y0 low, to_z-of_z w32 bar.y0 low_too) at (ap (to_z w32) c.if-last-bar.false);
        high = rw (to_z-of_z w32 last.y1 high, to_z-of_z w32 bar.y1 high_too) at (ap (to_z w32) c.if-last-bar-2.false);
        after = lt-false _ _ test;
        touches = le-true _ _ t;
      }),
      λ w. le-test _ _ w.touches,
    )
