use Rattle.dpl_shade.proofs.DealtLaws.{AreDarkened}
use Rattle.dpl_shade.proofs.dealt.darken_by.Given as goal

abbrev pub invariant-loop-n : goal.invariant-loop-n
invariant-loop-n l = AreDarkened l.n l.other l.initial.dead.items l.dead.items
