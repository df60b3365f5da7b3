use Rattle.std.specs.Prelude.{ℤ, ◌<ℤ◌}
use Rattle.dpl_upward.specs.Fronts.{IsFront}
use Rattle.dpl_upward.specs.Upward.{IsCutUpTo}
use Rattle.dpl_upward.proofs.upward.Front.put_without.Given as goal

abbrev pub invariant-loop-i : goal.invariant-loop-i
invariant-loop-i l = record {
  cut : IsCutUpTo l.bar l.gaps l.i l.x l.initial.self.pieces.items l.self.pieces.items;
  front : IsFront l.bar.y0 l.bar.y1 l.x l.self;
  later : (x : ℤ) → l.bar.x1 <ℤ x → IsFront l.bar.y0 l.bar.y1 x l.self;
}
