use Rattle.std.proofs.Common.{rules}
use Rattle.dpl_check.proofs.Placing.{near-units, point-fits}
use Rattle.dpl_check.proofs.place.are_near.Goals as goal

pub unreachable-requires : goal.unreachable-requires
unreachable-requires c =
    let none = rw c.in_default.is at c.unit.ensures.none in
    none (search rules) (point-fits c.args.p c.requires.first)

pub unreachable-requires-in_default-unit : goal.unreachable-requires-in_default-unit
unreachable-requires-in_default-unit c =
    let none = rw c.in_default-unit.is at c.unit-2.ensures.none in
    none (search rules) (point-fits c.args.q c.requires.second)

pub returns : goal.returns
returns c =
    let first = rw c.in-Some.is at c.unit.ensures.some in
    let second = rw c.in-Some-unit.is at c.unit-2.ensures.some in
    let same = near-units c.args.spacing c.args.p c.args.q c.in-Some.first c.in-Some-unit.second first second in
    (λ test. same.0 (c.near.ensures.0 test), λ close. c.near.ensures.1 (same.1 close))
