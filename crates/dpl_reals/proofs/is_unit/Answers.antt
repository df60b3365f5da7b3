use Rattle.std.proofs.Common.{arith, ◌≡◌, ◌+◌, ◌*◌, ◌-◌, ◌^◌, subst, eq-eqb}
use Rattle.std.proofs.lemmas.Bool.Decides.{nat_tests}
use Rattle.dpl_reals.proofs.Powers.{unit-past, unit-down, magnitude-down, down-magnitude}
use Rattle.dpl_reals.proofs.is_unit.Goals as goal

pub returns-then-exponent-gt78 : goal.returns-then-exponent-gt78
returns-then-exponent-gt78 c = (λ h. (cc), λ h. absurd (unit-past c.args.mantissa c.args.exponent (omega arith) h))

pub returns-in-Some : goal.returns-in-Some
returns-in-Some c =
    let split : c.args.exponent + (78 - c.args.exponent) ≡ 78 = omega arith in (
      λ h. (let one : c.in-Some.value ≡ 1 = grind (arith, nat_tests, h) in
          magnitude-down c.args.mantissa c.args.exponent (78 - c.args.exponent) 1 split
          (subst (λ v. c.args.mantissa ≡ v * 16 ^ (78 - c.args.exponent)) one c.in-Some.ensures.some)),
      λ h. eq-eqb c.in-Some.value 1 (unit-down c.args.mantissa c.args.exponent (78 - c.args.exponent) split c.in-Some.value c.in-Some.ensures.some h),
    )

pub returns-in-None : goal.returns-in-None
returns-in-None c = (λ h. (cc), λ h. absurd (c.in-None.ensures.none 1 (down-magnitude c.args.mantissa c.args.exponent _ 1 (omega arith) h)))
