use Rattle.std.proofs.Common.{rules}
use Rattle.std.specs.Prelude.{ℤ}
use Rattle.std.proofs.lemmas.List.Sorted.{answers_always}
use Rattle.dpl_feature.specs.declared.meet.Top.{Top}
use Rattle.dpl_feature.proofs.Orders.{pairs-rise}
use Rattle.dpl_feature.proofs.meet.sort_tops.Goals as goal

pub returns-clause-rise : goal.returns-clause-rise
returns-clause-rise c =
    let key : Top → ℤ × ℤ = λ t. (t.row, t.column) in
    pairs-rise key _ (c.sort_by_key.ensures.sorted key (answers_always _ _ _ (λ f a r g q. search rules)))
