use Rattle.std.proofs.lemmas.Result.{IfOk-weaker}
use Rattle.dpl_feature.proofs.Orders.{tops-has, tops-permuted, tops-rise}
use Rattle.dpl_feature.proofs.meet.sorted_tops.Goals as goal

pub returns-clause-tops : goal.returns-clause-tops
returns-clause-tops c = IfOk-weaker c.numbers_of.result _ _ (λ v is. tops-has c.args.rects.now c.sort_tops.new.tops.items v.items (rw c.deref.ensures.value at is)
    (tops-permuted c.args.rects.now _ c.sort_tops.new.tops.items c.sort_tops.ensures.same c.in_ok-tops.ensures)) c.numbers_of.ensures

pub returns-clause-rise : goal.returns-clause-rise
returns-clause-rise c = IfOk-weaker c.numbers_of.result _ _ (λ v is. tops-rise c.args.rects.now c.sort_tops.new.tops.items v.items (rw c.deref.ensures.value at is)
    (tops-permuted c.args.rects.now _ c.sort_tops.new.tops.items c.sort_tops.ensures.same c.in_ok-tops.ensures) c.sort_tops.ensures.rise) c.numbers_of.ensures
