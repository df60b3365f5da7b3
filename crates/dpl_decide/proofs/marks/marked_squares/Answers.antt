use Rattle.std.proofs.lemmas.Result.{IfOk-weaker}
use Rattle.dpl_decide.proofs.Marking.{both_marked}
use Rattle.dpl_decide.proofs.marks.marked_squares.Goals as goal

pub returns-in-Some : goal.returns-in-Some
returns-in-Some c = rw c.in-Some.is (IfOk-weaker c.union.result _ _ (λ set h. both_marked c.in-Some.sets.now set h) c.union.ensures)
