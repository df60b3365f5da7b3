use Rattle.dpl_slabs.proofs.JointLaws.{joints-none, joints-next, joint-above, joint-within}
use Rattle.std.proofs.lemmas.Result.{IfOk-from_err}
use Rattle.dpl_slabs.proofs.joint.combine_by_rows.Goals as goal

pub loop-first_rest-init : goal.loop-first_rest-init
loop-first_rest-init c = rw c.new-slabs.ensures.items
    (joints-none c.args.rule c.args.first.now c.args.second.now c.requires.first c.requires.second c.requires.first_within
    c.requires.second_within)

pub add_joint-requires-clause-below : goal.add_joint-requires-clause-below
add_joint-requires-clause-below c =
    rw (c.split_at.ensures.front, c.split_at-in-loop-first_rest.ensures.front)
    (joint-above c.args.rule c.args.first.now c.args.second.now _ _ _ c.joint_strip-n.result.0 c.joint_strip-n.result.1
    c.loop-first_rest.invariant)

pub add_joint-requires-clause-within : goal.add_joint-requires-clause-within
add_joint-requires-clause-within c =
    rw (c.split_at.ensures.front, c.split_at-in-loop-first_rest.ensures.front)
    (joint-within c.args.rule c.args.first.now c.args.second.now _ _ _ c.joint_strip-n.result.0 c.joint_strip-n.result.1
    c.loop-first_rest.invariant)

pub loop-first_rest-preserved : goal.loop-first_rest-preserved
loop-first_rest-preserved c =
    let adds = rw (c.split_at.ensures.front, c.split_at-in-loop-first_rest.ensures.front) at c.in_ok-add_joint.ensures in
    rw (c.split_at.ensures.back, c.split_at-in-loop-first_rest.ensures.back)
    (joints-next c.args.rule c.args.first.now c.args.second.now _ _ _ c.joint_strip-n.result.0 c.joint_strip-n.result.1
    c.loop-first_rest.invariant _ c.joint_strip-n.ensures adds)

pub returns-in_err-add_joint-clause-slabs : goal.returns-in_err-add_joint-clause-slabs
returns-in_err-add_joint-clause-slabs c = IfOk-from_err _ _ c.from_residual.ensures.0

pub returns-in_err-add_joint-clause-within : goal.returns-in_err-add_joint-clause-within
returns-in_err-add_joint-clause-within c = IfOk-from_err _ _ c.from_residual.ensures.0
