use Rattle.std.proofs.Common.{rules}
use Rattle.std.proofs.lemmas.List.Sorted.{answers_always}
use Rattle.dpl_order.proofs.Orders.{corner_keys, corners-rise}
use Rattle.dpl_order.proofs.order.sort_by_corner.Goals as goal

pub returns-clause-rise : goal.returns-clause-rise
returns-clause-rise c = corners-rise _ (c.sort_by_key.ensures.sorted corner_keys (answers_always _ _ _ (λ f a r g q. search rules)))
