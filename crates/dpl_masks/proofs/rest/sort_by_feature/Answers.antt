use Rattle.std.proofs.Common.{rules}
use Rattle.std.proofs.lemmas.List.Sorted.{Contains-permutation, IsNonDecreasingBy-from_sort, IsPermutation-sym, answers_always}
use Rattle.dpl_masks.specs.declared.rest.Patch.{Patch}
use Rattle.dpl_masks.proofs.rest.sort_by_feature.Goals as goal

pub returns-clause-same : goal.returns-clause-same
returns-clause-same c = λ t. (
  λ h. Contains-permutation _ _ t (IsPermutation-sym _ _ c.sort_by_key.ensures.permutation) h,
  λ h. Contains-permutation _ _ t c.sort_by_key.ensures.permutation h,
)

pub returns-clause-rise : goal.returns-clause-rise
returns-clause-rise c =
    IsNonDecreasingBy-from_sort (λ (t : Patch). t.feature) _
    (c.sort_by_key.ensures.sorted (λ (t : Patch). t.feature) (answers_always _ _ _ (λ f a r g q. search rules)))
