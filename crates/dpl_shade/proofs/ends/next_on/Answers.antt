use Rattle.std.proofs.Common.{arith, sym}
use Rattle.dpl_shade.proofs.EndLaws.{first-next}
use Rattle.dpl_shade.proofs.ends.next_on.Goals as goal

pub returns-then-not-comes_before-2 : goal.returns-then-not-comes_before-2
returns-then-not-comes_before-2 c =
    first-next c.args.items.now c.requires.order c.requires.within c.args.n c.args.end c.requires.part c.loop-k.k (omega arith) (omega arith) c.loop-k.invariant
    (sym c.if-not-comes_before-2.ensures)
