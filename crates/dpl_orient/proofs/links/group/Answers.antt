use Rattle.std.proofs.Common.{rules}
use Rattle.std.proofs.lemmas.List.Sorted.{IsNonDecreasingBy-from_sort, answers_always}
use Rattle.dpl_orient.specs.declared.links.Link.{Link}
use Rattle.dpl_orient.proofs.links.group.Goals as goal

pub returns-clause-ordered : goal.returns-clause-ordered
returns-clause-ordered c = IsNonDecreasingBy-from_sort (λ (l : Link). l.from) _
    (c.sort_by_key.ensures.sorted (λ (l : Link). l.from) (answers_always _ _ _ (λ f a r g h. search rules)))
