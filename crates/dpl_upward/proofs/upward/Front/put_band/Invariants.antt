use Rattle.dpl_upward.specs.Fronts.{IsFront}
use Rattle.dpl_upward.specs.Upward.{ArePassed, ArePutUpTo}
use Rattle.dpl_upward.proofs.upward.Front.put_band.Given as goal

abbrev pub invariant-loop-i : goal.invariant-loop-i
invariant-loop-i l = record {
  put : ArePutUpTo l.low l.high l.active l.gaps l.i l.initial.self.pieces.items l.self.pieces.items l.bar;
  passed : ArePassed l.bar l.gaps l.bar.x0 l.passed.count l.passed.reach;
  front : IsFront l.low l.high l.bar.x0 l.self;
}
