use Rattle.dpl_check.proofs.Joining.{has-one}
use Rattle.dpl_check.proofs.anchors.is_marked_against.Goals as goal

pub returns-then-b : goal.returns-then-b
returns-then-b c =
    let one = has-one c.args.p c.in-Some-unit.square c.in-Some.trees.a (rw c.in-Some-unit.is at c.unit.ensures.some) in
    rw (c.in-Some.is, c.if-b.true) (λ met. one.0 (c.meets.ensures.0 met), λ on. c.meets.ensures.1 (one.1 on))

pub returns : goal.returns
returns c =
    let one = has-one c.args.p c.in-Some-unit.square c.in-Some.trees.b (rw c.in-Some-unit.is at c.unit.ensures.some) in
    rw (c.in-Some.is, c.if-b.false) (λ met. one.0 (c.meets-2.ensures.0 met), λ on. c.meets-2.ensures.1 (one.1 on))
