use Rattle.std.proofs.lemmas.Result.{IfOk-weaker}
use Rattle.dpl_check.proofs.Counting.{asked-none, asked-united}
use Rattle.dpl_check.proofs.conflict.marked_squares.Goals as goal

pub returns-then-marks : goal.returns-then-marks
returns-then-marks c = IfOk-weaker c.union.result _ _ (λ both h. asked-united c.args.marks c.args.mark_a.now c.args.mark_b.now both c.if-marks.true h) c.union.ensures

pub returns : goal.returns
returns c = asked-none c.args.marks c.args.mark_a.now c.args.mark_b.now c.empty.result c.if-marks.false c.empty.ensures
