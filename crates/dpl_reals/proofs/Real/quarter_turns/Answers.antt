use Rattle.std.proofs.Common.{arith, refl}
use Rattle.dpl_spec_elements.specs.Reals.{Excess64, IsRightAngle}
use Rattle.dpl_reals.proofs.Powers.{given_none}
use Rattle.dpl_reals.proofs.Signs.{degrees-right, none-right, quarter-turns}
use Rattle.dpl_reals.proofs.Real.quarter_turns.Goals as goal

pub returns-in_err-degrees-clause-none : goal.returns-in_err-degrees-clause-none
returns-in_err-degrees-clause-none c =
    let r : Excess64 = record { negative = c.self.inside.negative; exponent = c.self.inside.exponent; mantissa = c.self.inside.mantissa } in
    let h : IsRightAngle c.args.self.now → ⊥ = rw (← c.self.view_is) (none-right r c.in_err-degrees.ensures.none) in
    given_none _ h

pub returns-then-degrees-ne0-clause-none : goal.returns-then-degrees-ne0-clause-none
returns-then-degrees-ne0-clause-none c =
    let r : Excess64 = record { negative = c.self.inside.negative; exponent = c.self.inside.exponent; mantissa = c.self.inside.mantissa } in
    rw (← c.self.view_is) (λ right. c.if-degrees-ne0.true (degrees-right r c.in_ok-degrees.degrees c.in_ok-degrees.ensures.some right))

pub returns-clause-some : goal.returns-clause-some
returns-clause-some c =
    let r : Excess64 = record { negative = c.self.inside.negative; exponent = c.self.inside.exponent; mantissa = c.self.inside.mantissa } in
    rw (← c.self.view_is) (quarter-turns r c.in_ok-degrees.degrees _ _ c.in_ok-degrees.ensures.some (omega arith) refl c.turns_of.ensures)
