use Rattle.std.proofs.lemmas.Result.{IfOk-weaker, IfOk-from_err}
use Rattle.dpl_answer.proofs.Sheeting.{joined-sums}
use Rattle.dpl_answer.proofs.job.joined_conflicts.Goals as goal

pub returns : goal.returns
returns g c = λ marks fixed.
    IfOk-weaker c.copy.result _ _
    (λ joined is. rw is (joined-sums marks c.args.job.now c.in_ok-board.board c.joined.result.now fixed c.requires.tiled c.in_ok-board.ensures.stands
    c.in_ok-board.ensures.once.0 c.joined.ensures)) c.copy.ensures

pub returns-in_err-board : goal.returns-in_err-board
returns-in_err-board g c = λ marks are. IfOk-from_err _ _ c.from_residual.ensures.0
