use Rattle.std.proofs.Common.{◌<◌, length, refl, arith}
use Rattle.dpl_shade.proofs.DealtLaws.{darkened-all, darkened-here, darkened-none, darkened-past}
use Rattle.dpl_shade.proofs.dealt.darken_by.Goals as goal
use Rattle.dpl_shade.proofs.dealt.darken_by.Goals.{then-other-n, else-other-n}

pub loop-n-init : goal.loop-n-init
loop-n-init c = darkened-none c.args.other.now c.args.dead.now.items

pub loop-n-preserved : goal.loop-n-preserved
loop-n-preserved c = elim c.if-other-n.branch [
  | then-other-n w ↦ rw w.dead-is
      (let n_in : c.loop-n.n < length c.loop-n.dead.items = omega (arith, c.loop-n-test.true, c.requires, c.loop-n.invariant.sized) in
      darkened-here c.loop-n.n c.args.other.now c.args.dead.now.items c.loop-n.dead.items _ n_in w.if-other-n.true refl c.loop-n.invariant)
  | else-other-n w ↦ rw w.dead-is
      (darkened-past c.loop-n.n c.args.other.now c.args.dead.now.items c.loop-n.dead.items (λ h. let no = w.if-other-n.false in cc) c.loop-n.invariant)
]

pub returns-clause-sized : goal.returns-clause-sized
returns-clause-sized c = c.loop-n.invariant.sized

pub returns-clause-dead : goal.returns-clause-dead
returns-clause-dead c = darkened-all c.loop-n.n c.args.other.now c.args.dead.now.items c.loop-n.dead.items (omega arith) c.loop-n.invariant
