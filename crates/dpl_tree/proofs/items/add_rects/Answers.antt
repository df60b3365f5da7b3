use Rattle.std.proofs.Common.{arith, refl, rules}
use Rattle.dpl_tree.proofs.ItemLaws.{item-none, item-more, item-all}
use Rattle.dpl_tree.proofs.StoredLaws.{items-push}
use Rattle.dpl_tree.proofs.items.add_rects.Goals as goal

pub loop-rect-init : goal.loop-rect-init
loop-rect-init c = record {
  added = item-none c.args.owner c.args.rects.now _;
  room = (let ok = c.in_ok-reserve.ensures.ok in omega (arith, ok));
}

pub loop-rect-preserved : goal.loop-rect-preserved
loop-rect-preserved c = record {
  added = item-more c.args.owner c.args.rects.now c.loop-rect.rect-index _ _ _ _
      (items-push c.loop-rect.items.items _ _ c.in_ok-push.ensures.items) (omega arith) (search rules) refl c.loop-rect.invariant.added;
  room = omega (arith, c.in_ok-push.ensures.len, c.in_ok-push.ensures.capacity, c.loop-rect.invariant.room);
}

pub returns : goal.returns
returns c = rw c.in_ok-reserve.ensures.items at (item-all c.args.owner c.args.rects.now c.loop-rect.rect-index _ _ (omega arith) c.loop-rect.invariant.added)
