use Rattle.std.proofs.Common.{w32, rules, FitsSigned, arith}
use Rattle.std.proofs.lemmas.Int.{ints, to_z-of_z}
use Rattle.std.proofs.lemmas.Result.{IfOk-from_err}
use Rattle.dpl_upward.proofs.upward.Front.put_columns.Goals as goal

pub returns-clause-adds : goal.returns-clause-adds
returns-clause-adds c =
    let low : FitsSigned w32 c.args.bar.now.y0 = search rules in
    let high : FitsSigned w32 c.args.bar.now.y1 = search rules in
    rw (to_z-of_z w32 c.args.from c.ranges.from, to_z-of_z w32 c.args.to c.ranges.to, to_z-of_z w32 _ low, to_z-of_z w32 _ high) at c.in_ok-put.ensures.adds

pub returns-clause-front : goal.returns-clause-front
returns-clause-front c =
    let from = to_z-of_z w32 c.args.from c.ranges.from in
    let to = to_z-of_z w32 c.args.to c.ranges.to in
    let low : FitsSigned w32 c.args.bar.now.y0 = search rules in
    let high : FitsSigned w32 c.args.bar.now.y1 = search rules in
    let test = rw (from, to) at c.if-to-from.false in
    let front = rw (to, to_z-of_z w32 _ low, to_z-of_z w32 _ high) at c.in_ok-put.ensures.front in
    λ x before past. front x (past (grind (arith, ints, test)))

pub returns-in_err-put-clause-adds : goal.returns-in_err-put-clause-adds
returns-in_err-put-clause-adds c = IfOk-from_err _ _ c.from_residual.ensures.0

pub returns-in_err-put-clause-front : goal.returns-in_err-put-clause-front
returns-in_err-put-clause-front c = IfOk-from_err _ _ c.from_residual.ensures.0
