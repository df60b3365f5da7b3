use Rattle.std.proofs.lemmas.Result.{IfOk-from_err}
use Rattle.dpl_spec_split.specs.Marks.{asked}
use Rattle.dpl_check.proofs.conflict.asked_cut.Goals as goal

pub returns : goal.returns
returns c = c.cut_within.ensures (asked c.args.marks c.args.mark_a.now c.args.mark_b.now) c.in_ok-marked.ensures

pub returns-in_err-marked : goal.returns-in_err-marked
returns-in_err-marked c = IfOk-from_err _ _ c.from_residual.ensures.0
