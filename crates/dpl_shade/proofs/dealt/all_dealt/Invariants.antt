use Rattle.std.proofs.Common.{length}
use Rattle.dpl_shade.proofs.DealtLaws.{ArePut}
use Rattle.dpl_shade.proofs.dealt.all_dealt.Given as goal

abbrev pub invariant-loop-share : goal.invariant-loop-share
invariant-loop-share g l = ArePut l.join l.fn.known l.count l.shares.items l.shades

abbrev pub decreases-loop-share : goal.decreases-loop-share
decreases-loop-share g l = length l.shares.items
