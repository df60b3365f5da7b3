use Rattle.dpl_shade.proofs.DealtLaws.{HandlesTo}
use Rattle.dpl_shade.proofs.dealt.add_dealt.Given as goal

abbrev pub invariant-loop-strip : goal.invariant-loop-strip
invariant-loop-strip l = HandlesTo l.join l.worker l.workers l.strip l.initial.shades l.shades
