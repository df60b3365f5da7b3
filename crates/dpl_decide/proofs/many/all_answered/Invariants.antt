use Rattle.std.proofs.Common.{List}
use Rattle.std.specs.Prelude.{All}
use Rattle.std.specs.List.{AllZip}
use Rattle.std.specs.Vec.Iter.{into_iter_items}
use Rattle.dpl_layer.specs.declared.many.ReadLayer.{ReadLayer}
use Rattle.dpl_answer.specs.Many.{AreConflictsOfCut}
use Rattle.dpl_decide.specs.View.{FitsDecision}
use Rattle.dpl_decide.specs.Waits.{AreWaiting}
use Rattle.dpl_decide.proofs.Waiting.{AreHalfway}
use Rattle.dpl_decide.proofs.many.all_answered.Given as goal

-- some layers are decided, and the cuts and the conflicts of the others are left
abbrev pub invariant-loop-layer : goal.invariant-loop-layer
invariant-loop-layer g l = record {
  halfway : (layers : List ReadLayer) → AreWaiting l.spacing l.overlap layers l.fn.waiting.items l.fn.cuts.items
      → AreHalfway l.spacing l.overlap layers l.layer-iterator.rest.items (into_iter_items l.cuts) l.decisions.items;
  fits : All FitsDecision l.decisions.items;
  told : AllZip (AreConflictsOfCut l.spacing) (into_iter_items l.cuts) (into_iter_items l.conflicts);
}
