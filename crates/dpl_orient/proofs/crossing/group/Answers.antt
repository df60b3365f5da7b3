use Rattle.std.proofs.Common.{rules}
use Rattle.std.proofs.lemmas.List.Sorted.{IsNonDecreasingBy-from_sort, answers_always}
use Rattle.dpl_orient.specs.declared.crossing.Across.{Across}
use Rattle.dpl_orient.proofs.crossing.group.Goals as goal

pub returns-clause-grouped : goal.returns-clause-grouped
returns-clause-grouped c = IsNonDecreasingBy-from_sort (λ (a : Across). a.later) _
    (c.sort_by_key.ensures.sorted (λ (a : Across). a.later) (answers_always _ _ _ (λ f a r g h. search rules)))
