use Rattle.std.proofs.Common.{◌+◌, length}
use Rattle.dpl_slabs.specs.Joints.{AreJointsOf}
use Rattle.dpl_slabs.proofs.joint.combine_by_rows.Given as goal

abbrev pub invariant-loop-first_rest : goal.invariant-loop-first_rest
invariant-loop-first_rest l = AreJointsOf l.rule l.first l.second l.slabs.items l.first_rest l.second_rest

abbrev pub decreases-loop-first_rest : goal.decreases-loop-first_rest
decreases-loop-first_rest l = length l.first_rest + length l.second_rest
