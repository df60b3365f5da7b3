use Rattle.std.proofs.Common.{rules}
use Rattle.std.proofs.lemmas.List.Sorted.{answers_always}
use Rattle.dpl_order.proofs.Orders.{column_keys, columns-rise}
use Rattle.dpl_order.proofs.order.sort_by_columns.Goals as goal

pub returns-clause-rise : goal.returns-clause-rise
returns-clause-rise c = columns-rise _ (c.sort_by_key.ensures.sorted column_keys (answers_always _ _ _ (λ f a r g q. search rules)))
