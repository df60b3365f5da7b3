use Rattle.std.proofs.Common.{[], arith}
use Rattle.std.proofs.lemmas.List.{get_or_default}
use Rattle.dpl_tile.proofs.Adding.{adds-none}
use Rattle.dpl_tile.proofs.ItemLaws.{OfPart, part-more, parts-all}
use Rattle.dpl_tile.proofs.items.items_of.Goals as goal

pub loop-k-init : goal.loop-k-init
loop-k-init c = adds-none (OfPart c.args.parts.now) 0 _ (λ m e l k. omega (arith, l))

pub loop-k-preserved : goal.loop-k-preserved
loop-k-preserved c = part-more c.args.parts.now c.loop-k.k _ c.loop-k.items.items _ _ c.loop-k-test.true
    (rw c.index-parts-k.is (get_or_default _ _ _ [] c.loop-k-test.true)) c.loop-k.invariant c.in_ok-add_part.ensures

pub returns : goal.returns
returns c = parts-all c.args.parts.now c.loop-k.k _ c.loop-k.items.items (omega arith) c.new-items.ensures.items c.loop-k.invariant
