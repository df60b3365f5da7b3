use Rattle.std.proofs.Common.{[], arith, sym, subst, ◌∙◌}
use Rattle.std.proofs.lemmas.List.{get_or_default}
use Rattle.dpl_tile.specs.Kept.{AreOver, IsMetByAny}
use Rattle.dpl_tile.proofs.Loops.{each-none, each-item, each-all, parts-count}
use Rattle.dpl_tile.proofs.cells.add_parts.Goals as goal

pub add_rects-requires-clause-over : goal.add_rects-requires-clause-over
add_rects-requires-clause-over c =
    subst (λ u. AreOver c.args.grid.now u) (sym (c.rects.ensures.value ∙ (c.part-item.is ∙ get_or_default _ _ _ [] c.loop-part-test.true)))
    (c.requires.over c.loop-part.part-index [] c.loop-part-test.true)

pub loop-part-init : goal.loop-part-init
loop-part-init c = record { added = each-none (IsMetByAny c.args.grid.now) c.args.parts.now c.args.places.now.items; count = omega arith }

pub loop-part-preserved : goal.loop-part-preserved
loop-part-preserved c =
    record {
      added = each-item (IsMetByAny c.args.grid.now) c.args.parts.now c.loop-part.part-index _ c.args.places.now.items
          c.loop-part.places.items _ c.loop-part-test.true
          (sym (c.part-item.is ∙ get_or_default _ _ _ c.part-item.result c.loop-part-test.true)) c.loop-part.invariant.added
          (rw c.rects.ensures.value at c.in_ok-add_rects.ensures.added);
      count = parts-count c.args.grid.now c.args.parts.now c.loop-part.part-index _ _ _ _ c.loop-part-test.true
          (sym (c.part-item.is ∙ get_or_default _ _ _ c.part-item.result c.loop-part-test.true)) c.loop-part.invariant.count
          (rw c.rects.ensures.value at c.in_ok-add_rects.ensures.count);
    }

pub returns-clause-added : goal.returns-clause-added
returns-clause-added c = each-all (IsMetByAny c.args.grid.now) c.args.parts.now c.loop-part.part-index c.args.places.now.items
    c.loop-part.places.items (omega arith) c.loop-part.invariant.added
