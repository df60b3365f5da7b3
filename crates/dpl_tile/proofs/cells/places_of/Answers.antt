use Rattle.std.proofs.Common.{◌≡◌, arith, refl, length}
use Rattle.dpl_tile.specs.Kept.{IsMetByPart}
use Rattle.dpl_tile.proofs.Adding.{added-to_none, adds-members}
use Rattle.std.proofs.lemmas.Result.{IfOk-from_err}
use Rattle.dpl_tile.proofs.cells.places_of.Goals as goal

pub returns : goal.returns
returns c =
    let added = adds-members (IsMetByPart c.args.grid.now c.args.parts.now) _ _ _ c.put_in_order.ensures.members c.in_ok-add_parts.ensures.added in
    let zero_is : length c.new-places.result.items ≡ 0 = rw c.new-places.ensures.items refl in
    let count = c.in_ok-add_parts.ensures.count in
    let few = c.put_in_order.ensures.few in
    rw c.shrink_to_fit.ensures.items record {
      ordered = c.put_in_order.ensures.ordered;
      exactly = added-to_none (IsMetByPart c.args.grid.now c.args.parts.now) _ _ c.new-places.ensures.items added;
      few = omega (arith, zero_is, count, few);
    }

pub returns-in_err-add_parts : goal.returns-in_err-add_parts
returns-in_err-add_parts c = IfOk-from_err _ _ c.from_residual.ensures.0
