use Rattle.std.proofs.Common.{◌≡◌, [], get_or, arith, ◌∙◌}
use Rattle.std.proofs.lemmas.List.{get_or_default}
use Rattle.std.proofs.lemmas.Result.{IfOk-from_err}
use Rattle.dpl_zone.proofs.OwnedLaws.{sets-all, sets-more, sets-none, slabs-of_part}
use Rattle.dpl_zone.proofs.items.slabs_of_parts.Goals as goal

pub loop-k-init : goal.loop-k-init
loop-k-init c = sets-none c.args.parts.now _ c.new-items.ensures.items

pub loop-k-preserved : goal.loop-k-preserved
loop-k-preserved c =
    let own : c.index-parts-k.result ≡ get_or c.args.parts.now c.loop-k.k [] = c.index-parts-k.is ∙ get_or_default _ _ _ _ c.loop-k-test.true in
    sets-more c.args.parts.now c.loop-k.k _ _ c.rects.result.now c.loop-k-test.true
    (slabs-of_part c.args.parts.now c.loop-k.k c.rects.result.now (c.rects.ensures.value ∙ own) (rw c.rects.ensures.value c.rects.ensures.canonical)) (rw c.rects.ensures.value c.rects.ensures.within)
    c.in_ok-add_owner.ensures c.loop-k.invariant

pub returns-clause-sets : goal.returns-clause-sets
returns-clause-sets c = sets-all c.args.parts.now c.loop-k.k _ (omega arith) (omega arith) c.loop-k.invariant

pub returns-clause-rise : goal.returns-clause-rise
returns-clause-rise c = c.loop-k.invariant.rise

pub returns-clause-order : goal.returns-clause-order
returns-clause-order c = c.loop-k.invariant.order

pub returns-in_err-add_owner-clause-sets : goal.returns-in_err-add_owner-clause-sets
returns-in_err-add_owner-clause-sets c = IfOk-from_err _ _ c.from_residual.ensures.0

pub returns-in_err-add_owner-clause-rise : goal.returns-in_err-add_owner-clause-rise
returns-in_err-add_owner-clause-rise c = IfOk-from_err _ _ c.from_residual.ensures.0

pub returns-in_err-add_owner-clause-order : goal.returns-in_err-add_owner-clause-order
returns-in_err-add_owner-clause-order c = IfOk-from_err _ _ c.from_residual.ensures.0
