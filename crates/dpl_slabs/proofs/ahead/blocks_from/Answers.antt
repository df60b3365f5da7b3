use Rattle.std.proofs.lemmas.List.Elements.{All-push}
use Rattle.dpl_slabs.specs.Made.{IsBlock}
use Rattle.std.proofs.lemmas.Result.{IfOk-from_err}
use Rattle.dpl_slabs.proofs.ahead.blocks_from.Goals as goal

pub loop-next-preserved : goal.loop-next-preserved
loop-next-preserved c =
    rw c.in_ok-push.ensures.items (All-push (IsBlock c.args.rects.now) c.loop-next.blocks.items _ c.loop-next.invariant c.in_ok-block.ensures.block)

pub returns-in_err-block : goal.returns-in_err-block
returns-in_err-block c = IfOk-from_err _ _ c.from_residual.ensures.0

pub returns-in_err-push : goal.returns-in_err-push
returns-in_err-push c = IfOk-from_err _ _ c.from_residual-in_err-push.ensures.0
