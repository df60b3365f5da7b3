use Rattle.std.specs.Prelude.{◌↔◌}
use Rattle.dpl_spec_split.specs.declared.Pt.{Pt}
use Rattle.dpl_spec_split.specs.Squares.{Covers}
use Rattle.dpl_spec_split.specs.Loops.{AreRectsWithin, farthest}
use Rattle.dpl_masks.specs.Painting.{HoldFrom}
use Rattle.dpl_masks.proofs.united.own_slabs.Given as goal

abbrev pub invariant-loop-k : goal.invariant-loop-k
invariant-loop-k l = record {
  covers : (p : Pt) → Covers l.rects.items p ↔ HoldFrom l.patches l.start l.k p;
  within : AreRectsWithin farthest l.rects.items;
}
