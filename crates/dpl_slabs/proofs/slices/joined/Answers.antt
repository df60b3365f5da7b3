use Rattle.std.proofs.Common.{arith}
use Rattle.std.proofs.lemmas.Result.{IfOk-weaker, IfOk-from_err}
use Rattle.dpl_slabs.proofs.SliceLaws.{both-apart, pieces-joined, pieces-own}
use Rattle.dpl_slabs.proofs.slices.joined.Goals as goal

pub returns-then-is_empty : goal.returns-then-is_empty
returns-then-is_empty c = pieces-own c.args.growing.items c.args.more.items (let h = c.is_empty.ensures in grind arith) c.requires

pub join_pieces-requires : goal.join_pieces-requires
join_pieces-requires c =
    let moved = rw c.new-others.ensures.items at c.in_ok-starts.ensures in
    both-apart c.args.growing.items c.args.more.items _ _ moved c.requires _ c.in_ok-both.ensures

pub returns : goal.returns
returns c =
    let moved = rw c.new-others.ensures.items at c.in_ok-starts.ensures in
    IfOk-weaker c.put_together-2.result _ _
    (λ v put. pieces-joined c.args.growing.items c.args.more.items _ _ moved c.requires _ c.in_ok-both.ensures _ v.items c.join_pieces.ensures put) c.put_together-2.ensures

pub returns-in_err-starts : goal.returns-in_err-starts
returns-in_err-starts c = IfOk-from_err _ _ c.from_residual.ensures.0

pub returns-in_err-both : goal.returns-in_err-both
returns-in_err-both c = IfOk-from_err _ _ c.from_residual-in_err-both.ensures.0
