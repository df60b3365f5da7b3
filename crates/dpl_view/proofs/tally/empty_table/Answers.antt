use Rattle.std.proofs.lemmas.Result.{IfOk-from_err}
use Rattle.dpl_view.proofs.RankLaws.{entries-more}
use Rattle.dpl_view.proofs.tally.empty_table.Goals as goal

pub loop-rank-preserved : goal.loop-rank-preserved
loop-rank-preserved c = entries-more (λ test. 0) c.args.ranks.now c.loop-rank.rank-index c.loop-rank.table.items _ _ c.in_ok-push.ensures.items
    c.empty_entry-entry.ensures c.loop-rank.invariant

pub returns-in_err-push : goal.returns-in_err-push
returns-in_err-push c = IfOk-from_err _ _ c.from_residual.ensures.0
