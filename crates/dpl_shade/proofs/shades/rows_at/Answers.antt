use Rattle.std.proofs.Common.{rules}
use Rattle.std.specs.Prelude.{ℤ}
use Rattle.std.proofs.lemmas.List.Sorted.{answers_always}
use Rattle.dpl_shade.specs.declared.rows.Span.{Span}
use Rattle.dpl_shade.specs.Shading.{HasShade}
use Rattle.dpl_shade.proofs.Orders.{tall-sorted, rows-sorted, rise-from_sorted}
use Rattle.dpl_shade.proofs.shades.rows_at.Goals as goal

pub returns-clause-tall : goal.returns-clause-tall
returns-clause-tall c = tall-sorted _ _ c.sort_unstable_by_key.ensures.permutation c.in_ok-list_rows.ensures.tall

pub returns-clause-rise : goal.returns-clause-rise
returns-clause-rise c =
    let key : Span → ℤ = λ s. s.from in
    rise-from_sorted key _ (c.sort_unstable_by_key.ensures.sorted key (answers_always _ _ _ (λ f a r g q. search rules)))

pub returns-clause-rows : goal.returns-clause-rows
returns-clause-rows c =
    rows-sorted _ _ (HasShade c.args.found.now c.args.at.number) c.sort_unstable_by_key.ensures.permutation c.in_ok-list_rows.ensures.rows
