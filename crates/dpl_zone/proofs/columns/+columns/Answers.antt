use Rattle.std.proofs.lemmas.Result.{IfOk-at_ok, IfOk-from_err}
use Rattle.dpl_zone.specs.Columns.{AreSetsBetween}
use Rattle.dpl_zone.specs.Owned.{transposed_parts}
use Rattle.dpl_zone.proofs.ColumnLaws.{sets-both}
use Rattle.dpl_zone.proofs.columns.+columns.Goals as goal

pub returns : goal.returns
returns g t c =
    rw c.in_ok-append.ensures.items
    (sets-both (transposed_parts c.args.parts.now) c.args.start c.part_behind-middle.result c.args.end _ _ c.part_behind-middle.ensures.from c.part_behind-middle.ensures.to
    (IfOk-at_ok (λ v. AreSetsBetween (transposed_parts c.args.parts.now) _ _ v.items) c.in_ok-items.was c.join-first.ensures.first)
    (IfOk-at_ok (λ v. AreSetsBetween (transposed_parts c.args.parts.now) _ _ v.items) c.in_ok-rest.was c.join-first.ensures.second))

pub returns-in_err-items : goal.returns-in_err-items
returns-in_err-items g t c = IfOk-from_err _ _ c.from_residual.ensures.0

pub returns-in_err-rest : goal.returns-in_err-rest
returns-in_err-rest g t c = IfOk-from_err _ _ c.from_residual-in_err-rest.ensures.0

pub returns-in_err-append : goal.returns-in_err-append
returns-in_err-append g t c = IfOk-from_err _ _ c.from_residual-in_err-append.ensures.0
