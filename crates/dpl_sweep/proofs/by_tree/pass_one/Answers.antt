use Rattle.std.proofs.Common.{rules, w32, arith, FitsSigned}
use Rattle.std.proofs.lemmas.Int.{ints}
use Rattle.dpl_sweep.proofs.PassLaws.{passed-more}
use Rattle.std.proofs.lemmas.Result.{IfOk-from_err}
use Rattle.dpl_sweep.proofs.by_tree.pass_one.Goals as goal

pub returns : goal.returns
returns c es start same before =
    let y0 : FitsSigned w32 c.args.edge.y0 = search rules in
    let y1 : FitsSigned w32 c.args.edge.y1 = search rules in
    passed-more c.args.rule es _ _ start _ _ _ _ c.args.edge (omega (arith, ints, y0))
    (omega (arith, ints, y1)) before c.in_ok-sweep.ensures.sweeps c.in_ok-sweep.ensures.rows (rw same c.in_ok-sweep.ensures.sums)

pub returns-in_err-sweep : goal.returns-in_err-sweep
returns-in_err-sweep c = IfOk-from_err _ _ c.from_residual.ensures.0
