use Rattle.std.proofs.Common.{rules}
use Rattle.std.proofs.lemmas.List.Sorted.{IsNonDecreasingBy-from_sort_by_key}
use Rattle.dpl_shade.proofs.shades.sort_by_number.Goals as goal

pub returns-clause-rise : goal.returns-clause-rise
returns-clause-rise c = IsNonDecreasingBy-from_sort_by_key (λ s. s.number) _ c.sort_by_key.ensures.sorted (λ a r q k. search rules)
