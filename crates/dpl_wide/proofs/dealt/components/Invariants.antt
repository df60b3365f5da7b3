use Rattle.dpl_feature.specs.Dealt.{IsDealt}
use Rattle.dpl_wide.proofs.dealt.components.Given as goal

abbrev pub invariant-loop-i : goal.invariant-loop-i
invariant-loop-i l = IsDealt l.rects l.i l.numbers.items l.parts.items
