use Rattle.std.proofs.Common.{rules}
use Rattle.std.proofs.lemmas.List.Sorted.{IsNonDecreasingBy-from_sort_by_key}
use Rattle.dpl_shade.proofs.Orders.{ok-said}
use Rattle.dpl_shade.proofs.shades.merge_by_number.Goals as goal

pub returns-else-is_err-clause-rise : goal.returns-else-is_err-clause-rise
returns-else-is_err-clause-rise c =
    IsNonDecreasingBy-from_sort_by_key (λ s. s.number) _ (ok-said c.sort_by_key.result c.if-is_err.ensures.negation c.sort_by_key.ensures.sorted) (λ a r q k. search rules)
