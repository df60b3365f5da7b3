use Rattle.std.proofs.lemmas.List.Elements.{All-push}
use Rattle.dpl_slabs.specs.Made.{IsSlice}
use Rattle.std.proofs.lemmas.Result.{IfOk-from_err}
use Rattle.dpl_slabs.proofs.made.slices_from.Goals as goal

pub returns-then-left-count : goal.returns-then-left-count
returns-then-left-count c =
    rw c.in_ok-push.ensures.items (All-push (IsSlice c.args.rects.now c.args.holes.now) c.loop-high.made.items _ c.loop-high.invariant c.in_ok-pieces.ensures)

pub loop-high-preserved : goal.loop-high-preserved
loop-high-preserved c =
    rw c.in_ok-push.ensures.items (All-push (IsSlice c.args.rects.now c.args.holes.now) c.loop-high.made.items _ c.loop-high.invariant c.in_ok-pieces.ensures)

pub returns-in_err-made : goal.returns-in_err-made
returns-in_err-made c = IfOk-from_err _ _ c.from_residual.ensures.0

pub returns-in_err-pieces : goal.returns-in_err-pieces
returns-in_err-pieces c = IfOk-from_err _ _ c.from_residual-in_err-pieces.ensures.0

pub returns-in_err-push : goal.returns-in_err-push
returns-in_err-push c = IfOk-from_err _ _ c.from_residual-in_err-push.ensures.0
