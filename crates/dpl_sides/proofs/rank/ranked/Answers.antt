use Rattle.std.proofs.Common.{arith, rules}
use Rattle.std.proofs.lemmas.Result.{IfOk-from_err}
use Rattle.dpl_sides.proofs.Places.{ranked-next, ranked-all}
use Rattle.dpl_sides.proofs.rank.ranked.Goals as goal

pub loop-i-preserved : goal.loop-i-preserved
loop-i-preserved c =
    ranked-next c.loop-i.i c.args.ranks.now c.args.firsts.now c.args.seconds.now _ c.loop-i.sides.items _ c.in_ok-push.ensures.items (search rules) c.loop-i.invariant

pub returns : goal.returns
returns c = ranked-all c.loop-i.i c.args.ranks.now c.args.firsts.now c.args.seconds.now c.loop-i.sides.items (omega arith) c.loop-i.invariant

pub returns-in_err-sides : goal.returns-in_err-sides
returns-in_err-sides c = IfOk-from_err _ _ c.from_residual.ensures.0

pub returns-in_err-push : goal.returns-in_err-push
returns-in_err-push c = IfOk-from_err _ _ c.from_residual-in_err-push.ensures.0
