use Rattle.std.proofs.lemmas.Result.{IfOk-weaker, IfOk-from_err}
use Rattle.dpl_walk.proofs.WayLaws.{same_walk}
use Rattle.dpl_walk.proofs.gather.Goals as goal

pub returns : goal.returns
returns c = IfOk-weaker c.walk_from.result _ _
    (λ g walked. (
      walked.0,
      same_walk c.args.cells.items c.pass_by.new.cells.items c.args.top walked.0 g.far c.in_ok-pass_by.ensures.same
          (rw c.as_slice.ensures.value at walked.1),
      walked.2,
    ))
    c.walk_from.ensures

pub returns-in_err-pass_by : goal.returns-in_err-pass_by
returns-in_err-pass_by c = IfOk-from_err _ _ c.from_residual.ensures.0
