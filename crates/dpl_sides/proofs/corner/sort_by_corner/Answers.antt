use Rattle.std.proofs.Common.{rules}
use Rattle.std.specs.Prelude.{ℤ}
use Rattle.std.proofs.lemmas.List.Sorted.{answers_always}
use Rattle.dpl_sides.specs.declared.corner.Corner.{Corner}
use Rattle.dpl_sides.proofs.corner.sort_by_corner.Goals as goal

pub returns-clause-rise : goal.returns-clause-rise
returns-clause-rise c =
    let key : Corner → ℤ × ℤ = λ e. (e.y, e.x) in
    c.sort_by_key.ensures.sorted key (answers_always _ _ _ (λ f a r g q. search rules))
