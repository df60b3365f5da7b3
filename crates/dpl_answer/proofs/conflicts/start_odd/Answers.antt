use Rattle.std.proofs.Common.{◌≡◌}
use Rattle.std.proofs.lemmas.Result.{IfOk-from_err}
use Rattle.dpl_stars.specs.declared.joined.Joined.TheVariants.{Odd}
use Rattle.dpl_answer.proofs.Planned.{odd_of_first}
use Rattle.dpl_answer.proofs.conflicts.start_odd.Goals as goal

pub returns : goal.returns
returns c = λ odd.
    let is : c.in_ok-joined.joined ≡ Odd = c.is_odd.ensures.0 odd in
    odd_of_first _ c.args.edges.now (rw is at c.in_ok-joined.ensures)

pub returns-in_err-joined : goal.returns-in_err-joined
returns-in_err-joined c = IfOk-from_err _ _ c.from_residual.ensures.0
