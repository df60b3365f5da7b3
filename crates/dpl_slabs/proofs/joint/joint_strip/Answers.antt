use Rattle.std.proofs.Common.{refl, rules, w32, FitsSigned}
use Rattle.std.proofs.lemmas.Int.{to_z-of_z}
use Rattle.dpl_slabs.proofs.JointLaws.{open-left, open-right, open-closed}
use Rattle.dpl_slabs.proofs.joint.joint_strip.Goals as goal

pub loop-row-preserved-in-Some : goal.loop-row-preserved-in-Some
loop-row-preserved-in-Some c =
    let fits : FitsSigned w32 c.in-Some.row = search rules in
    rw (to_z-of_z w32 c.in-Some.row fits)
    (open-left c.args.first.now c.args.second.now c.loop-row.n c.loop-row.m c.loop-row.top c.in-Some.row
    (rw c.loop-row.top-is at c.in-Some.ensures.some) (rw c.loop-row.top-is at c.loop-row.invariant))

pub returns-in_default-raised : goal.returns-in_default-raised
returns-in_default-raised c =
    open-closed c.args.first.now c.args.second.now c.loop-row.n c.loop-row.m c.loop-row.top
    (rw c.loop-row.top-is at (c.in_default.ensures.none refl)) (rw c.loop-row.top-is at (c.in_default-raised.ensures.none refl))
    (rw c.loop-row.top-is at c.loop-row.invariant)

pub loop-row-preserved : goal.loop-row-preserved
loop-row-preserved c =
    let fits : FitsSigned w32 c.in-Some-raised.row = search rules in
    rw (to_z-of_z w32 c.in-Some-raised.row fits)
    (open-right c.args.first.now c.args.second.now c.loop-row.n c.loop-row.m c.loop-row.top c.in-Some-raised.row
    (rw c.loop-row.top-is at c.in-Some-raised.ensures.some) (rw c.loop-row.top-is at c.loop-row.invariant))
