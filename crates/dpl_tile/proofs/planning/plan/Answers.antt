use Rattle.std.proofs.Common.{refl}
use Rattle.dpl_tile.specs.Meetings.{AreItemsOf}
use Rattle.dpl_tile.proofs.ItemLaws.{items-over, items-owned}
use Rattle.std.proofs.lemmas.Result.{IfOk-from_err}
use Rattle.dpl_tile.proofs.planning.plan.Goals as goal

pub meetings_of-requires-clause-over : goal.meetings_of-requires-clause-over
meetings_of-requires-clause-over c =
    let laid = rw c.items.ensures.value at c.in_ok-laid.ensures in
    let are : AreItemsOf c.args.parts.now c.in_ok-items.items.items = rw c.items-2.ensures.value at c.in_ok-items.ensures in
    rw c.in_ok-join.ensures.items (items-over c.in_ok-laid.laid.grid c.args.parts.now c.in_ok-items.items.items are laid.over)

pub meetings_of-requires-clause-owned : goal.meetings_of-requires-clause-owned
meetings_of-requires-clause-owned c =
    let are : AreItemsOf c.args.parts.now c.in_ok-items.items.items = rw c.items-2.ensures.value at c.in_ok-items.ensures in
    rw c.in_ok-join.ensures.items (items-owned c.args.parts.now c.args.owner.now c.in_ok-items.items.items c.requires.owners are)

pub invariant_of-result : goal.invariant_of-result
invariant_of-result c =
    let laid = rw c.items.ensures.value at c.in_ok-laid.ensures in
    let are : AreItemsOf c.args.parts.now c.in_ok-items.items.items = rw c.items-2.ensures.value at c.in_ok-items.ensures in
    let met = rw c.in_ok-join.ensures.items at c.in_ok-meetings.ensures in
    rw (c.into_items-items.ensures, c.in_ok-join.ensures.items)
    (record {
      owned = c.requires.owners;
      parted = c.items.ensures.parts;
      corner = c.requires.corner;
      listed = are;
      over = items-over c.in_ok-laid.laid.grid c.args.parts.now c.in_ok-items.items.items are laid.over;
      met = met;
      few = laid.few;
      sound = laid.sound;
      close = laid.close;
    })

pub returns : goal.returns
returns c =
    let laid = rw c.items.ensures.value at c.in_ok-laid.ensures in
    record { of_parts = refl; of_owners = refl; of_spacing = refl; tiles = laid.tiles }

pub returns-in_err-laid : goal.returns-in_err-laid
returns-in_err-laid c = IfOk-from_err _ _ c.from_residual.ensures.0

pub returns-in_err-items : goal.returns-in_err-items
returns-in_err-items c = IfOk-from_err _ _ c.from_residual-in_err-items.ensures.0

pub returns-in_err-join : goal.returns-in_err-join
returns-in_err-join c = IfOk-from_err _ _ c.from_residual-in_err-join.ensures.0

pub returns-in_err-meetings : goal.returns-in_err-meetings
returns-in_err-meetings c = IfOk-from_err _ _ c.from_residual-in_err-meetings.ensures.0
