use Rattle.std.proofs.Common.{◌≡◌, [], get_or, ◌∙◌, arith}
use Rattle.std.proofs.lemmas.List.{get_or_default}
use Rattle.std.proofs.lemmas.Result.{IfOk-from_err}
use Rattle.dpl_zone.specs.Owned.{transposed_parts}
use Rattle.dpl_zone.proofs.ColumnLaws.{sets-more, sets-none}
use Rattle.dpl_zone.proofs.OwnedLaws.{columns-of_part}
use Rattle.dpl_zone.proofs.columns.columns_of_part.Goals as goal

pub returns : goal.returns
returns g c =
    let own : c.index-parts-number.result ≡ get_or c.args.parts.now c.args.number [] = c.index-parts-number.is ∙ get_or_default _ _ _ _ c.requires in
    sets-more (transposed_parts c.args.parts.now) c.args.number c.args.number _ _ c.in_ok-columns.columns.items (omega arith)
    (columns-of_part c.args.parts.now c.args.number c.index-parts-number.result c.in_ok-columns.columns.items c.requires own c.in_ok-columns.ensures.slabs) c.in_ok-columns.ensures.within
    (rw c.deref.ensures.value at c.in_ok-add_owner.ensures) (sets-none (transposed_parts c.args.parts.now) c.args.number _ c.new-items.ensures.items)

pub returns-in_err-columns : goal.returns-in_err-columns
returns-in_err-columns g c = IfOk-from_err _ _ c.from_residual.ensures.0

pub returns-in_err-add_owner : goal.returns-in_err-add_owner
returns-in_err-add_owner g c = IfOk-from_err _ _ c.from_residual-in_err-add_owner.ensures.0
