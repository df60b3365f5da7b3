use Rattle.std.proofs.Common.{arith}
use Rattle.std.proofs.lemmas.Result.{IfOk-from_err}
use Rattle.dpl_zone.specs.Owned.{owned_by}
use Rattle.dpl_zone.proofs.OwnedLaws.{grown-all, grown-more, grown-none}
use Rattle.dpl_zone.proofs.items.add_items.Goals as goal

pub loop-rect-init : goal.loop-rect-init
loop-rect-init c = grown-none (owned_by c.args.owner) c.args.rects.now _

pub loop-rect-preserved : goal.loop-rect-preserved
loop-rect-preserved c = grown-more (owned_by c.args.owner) c.args.rects.now c.loop-rect.rect-index _ _ c.loop-rect.items.items _ c.in_ok-push.ensures.items c.loop-rect-test.true c.loop-rect.invariant

pub returns : goal.returns
returns c = rw c.in_ok-reserve.ensures.items at (grown-all (owned_by c.args.owner) c.args.rects.now c.loop-rect.rect-index _ c.loop-rect.items.items (omega arith) c.loop-rect.invariant)

pub returns-in_err-reserve : goal.returns-in_err-reserve
returns-in_err-reserve c = IfOk-from_err _ _ c.from_residual.ensures.0

pub returns-in_err-push : goal.returns-in_err-push
returns-in_err-push c = IfOk-from_err _ _ c.from_residual-in_err-push.ensures.0
