use Rattle.std.specs.Prelude.{◌≡◌}
use Rattle.dpl_upward.specs.Fronts.{ArePassedBy}
use Rattle.dpl_upward.proofs.upward.Front.seek.Given as goal

abbrev pub invariant-loop-k : goal.invariant-loop-k
invariant-loop-k l = record {
  pieces : l.self.pieces.items ≡ l.initial.self.pieces.items;
  below : l.self.below.items ≡ l.initial.self.below.items;
  here : l.self.here.items ≡ l.initial.self.here.items;
  passed : ArePassedBy l.bar.x0 l.initial.self.pieces.items l.initial.self.below.items l.k;
}
