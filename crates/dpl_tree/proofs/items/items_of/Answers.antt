use Rattle.std.proofs.Common.{[], ◌∙◌, arith}
use Rattle.std.proofs.lemmas.List.{get_or_default}
use Rattle.dpl_tree.proofs.ItemLaws.{parts-none, parts-more, parts-all}
use Rattle.dpl_tree.proofs.items.items_of.Goals as goal

pub loop-k-init : goal.loop-k-init
loop-k-init c = parts-none c.args.parts.now _ c.in_ok-items.ensures

pub loop-k-preserved : goal.loop-k-preserved
loop-k-preserved c =
    parts-more c.args.parts.now c.loop-k.k _ _ c.rects.result.now c.loop-k-test.true
    (c.rects.ensures.value ∙ (c.index-parts-k.is ∙ get_or_default _ _ _ [] c.loop-k-test.true)) c.loop-k.invariant c.in_ok-add.ensures

pub returns : goal.returns
returns c = parts-all c.args.parts.now c.loop-k.k _ (omega arith) c.loop-k.invariant
