use Rattle.std.proofs.lemmas.Result.{IfOk-weaker}
use Rattle.dpl_run.proofs.demo.shown.Goals as goal

pub returns-in-Answered : goal.returns-in-Answered
returns-in-Answered c = rw c.in-Answered.is (IfOk-weaker c.shown_answer.result _ _ (λ x is. is c.in-Answered.copied.items) c.shown_answer.ensures)
