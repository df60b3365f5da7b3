use Rattle.std.proofs.Common.{◌<◌, arith}
use Rattle.std.proofs.lemmas.Result.{IfOk-from_err}
use Rattle.std.proofs.lemmas.List.{get_or_default}
use Rattle.dpl_spec_split.specs.Graphs.{stay}
use Rattle.dpl_view.proofs.TangleLaws.{tangled-of}
use Rattle.dpl_view.proofs.tangles.tangled_count.Goals as goal

pub returns : goal.returns
returns c =
    let levels = c.in_ok-levels.levels in
    tangled-of c.args.edges.now c.args.n levels.roots.items levels.levels.items c.in_ok-marks.marks.items c.marked_count-count.result c.requires.below c.requires.ordered
    c.in_ok-levels.ensures c.in_ok-marks.ensures.marks (rw c.deref.ensures.value at c.marked_count-count.ensures)

pub marked_count-count-requires-clause-inside : goal.marked_count-count-requires-clause-inside
marked_count-count-requires-clause-inside c = λ k d l.
    let levels = c.in_ok-levels.levels in
    let lv = c.in_ok-levels.ensures in
    let roots_many = lv.as_many_roots in
    let levels_many = lv.as_many_levels in
    let k_in : k < c.args.n = omega (arith, l, roots_many) in
    let low = (lv.root k k_in).least k (0, stay) in
    let same = get_or_default levels.roots.items k d 0 l in
    omega (arith, low, same, k_in, levels_many, levels.levels.ok.0)

pub returns-in_err-levels : goal.returns-in_err-levels
returns-in_err-levels c = IfOk-from_err _ _ c.from_residual.ensures.0

pub returns-in_err-marks : goal.returns-in_err-marks
returns-in_err-marks c = IfOk-from_err _ _ c.from_residual-in_err-marks.ensures.0
