use Rattle.std.proofs.Common.{◌+◌, ◌-◌, length}
use Rattle.dpl_slabs.proofs.JointLaws.{IsOpenJoint}
use Rattle.dpl_slabs.proofs.joint.joint_strip.Given as goal

abbrev pub invariant-loop-row : goal.invariant-loop-row
invariant-loop-row l = IsOpenJoint l.first l.second l.n l.m l.top

abbrev pub decreases-loop-row : goal.decreases-loop-row
decreases-loop-row l = (length l.first + length l.second) - (l.n + l.m)
