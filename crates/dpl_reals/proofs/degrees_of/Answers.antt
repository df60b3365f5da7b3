use Rattle.std.proofs.Common.{ℕ, arith}
use Rattle.dpl_reals.proofs.Powers.{degrees-up, degrees-down, down-magnitude, given_none}
use Rattle.dpl_reals.specs.Magnitudes.{IsMagnitude}
use Rattle.dpl_reals.proofs.degrees_of.Goals as goal

pub returns-then-exponent-gt78-clause-some : goal.returns-then-exponent-gt78-clause-some
returns-then-exponent-gt78-clause-some c = degrees-up c.args.mantissa c.args.exponent _ _ (omega arith) c.shifted_up.ensures

pub returns-in_err-value-clause-none : goal.returns-in_err-value-clause-none
returns-in_err-value-clause-none c =
    let h : (v : ℕ) → IsMagnitude c.args.mantissa c.args.exponent v
    → ⊥ = λ v is. c.in_err-value.ensures.none v (down-magnitude c.args.mantissa c.args.exponent _ v (omega arith) is) in
    given_none _ h

pub returns-clause-some : goal.returns-clause-some
returns-clause-some c = degrees-down c.args.mantissa c.args.exponent _ _ (omega arith) c.in_ok-value.ensures.some
