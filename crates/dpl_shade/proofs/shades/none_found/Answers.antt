use Rattle.std.proofs.Common.{arith}
use Rattle.dpl_shade.proofs.ItemLaws.{owned-within}
use Rattle.dpl_shade.proofs.ShadingLaws.{short-all, short-more, short-start}
use Rattle.dpl_shade.proofs.shades.none_found.Goals as goal

pub loop-item-init : goal.loop-item-init
loop-item-init c = short-start c.args.overlap c.args.items.now _ c.in_ok-dead.ensures.items

pub is_short-requires : goal.is_short-requires
is_short-requires c = owned-within c.args.items.now c.loop-item.item-index _ c.requires c.loop-item-test.true

pub loop-item-preserved : goal.loop-item-preserved
loop-item-preserved c = short-more c.args.overlap c.args.items.now c.loop-item.item-index _ c.loop-item.dead.items _ c.is_short.result c.in_ok-push.ensures.items c.loop-item-test.true
    c.is_short.ensures.0 c.loop-item.invariant

pub returns-clause-sound : goal.returns-clause-sound
returns-clause-sound c = short-all c.args.spacing c.args.overlap c.args.items.now c.loop-item.item-index _ c.loop-item.dead.items (omega arith) (omega arith) c.new.ensures.items c.loop-item.invariant
