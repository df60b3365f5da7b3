use Rattle.std.proofs.Common.{◌≡◌, length, arith}
use Rattle.std.proofs.lemmas.Result.{IfOk-weaker, IfOk-from_err}
use Rattle.dpl_check.proofs.Marking.{none-off, squares-are}
use Rattle.dpl_check.proofs.marks.squares_off.Goals as goal

pub returns-then-is_empty : goal.returns-then-is_empty
returns-then-is_empty c =
    let empty : length c.rects.result.now ≡ 0 = (let h = c.if-is_empty.ensures in grind arith) in
    rw c.empty.ensures (none-off c.args.layer.now c.args.mask.now c.args.other.now c.args.marked.now (rw c.rects.ensures.value at empty))

pub returns : goal.returns
returns c = IfOk-weaker c.minus-2.result _ _
    (λ off is. squares-are c.args.layer.now c.args.mask.now c.args.other.now c.args.marked.now c.in_ok-fixed.fixed c.in_ok-alone.alone off
    c.in_ok-fixed.ensures c.in_ok-alone.ensures is)
    c.minus-2.ensures

pub returns-in_err-fixed : goal.returns-in_err-fixed
returns-in_err-fixed c = IfOk-from_err _ _ c.from_residual.ensures.0

pub returns-in_err-alone : goal.returns-in_err-alone
returns-in_err-alone c = IfOk-from_err _ _ c.from_residual-in_err-alone.ensures.0
