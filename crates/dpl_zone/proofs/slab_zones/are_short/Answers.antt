use Rattle.std.proofs.Common.{refl, arith}
use Rattle.dpl_shade.proofs.ItemLaws.{owned-within}
use Rattle.dpl_zone.proofs.ItemZones.{all-short-more}
use Rattle.dpl_zone.proofs.slab_zones.are_short.Goals as goal

pub is_short-requires : goal.is_short-requires
is_short-requires c = owned-within c.args.items.now c.loop-item.item-index _ c.requires c.loop-item-test.true

pub loop-item-preserved : goal.loop-item-preserved
loop-item-preserved c = all-short-more c.args.overlap c.args.items.now c.loop-item.item-index _ c.loop-item-test.true (c.if-not-is_short.ensures.0 refl) c.loop-item.invariant

pub returns : goal.returns
returns c _ n n_in = c.loop-item.invariant n (omega (arith, n_in))
