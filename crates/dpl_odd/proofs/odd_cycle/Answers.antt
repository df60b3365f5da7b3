use Rattle.std.proofs.Common.{◌≡◌, subst, arith}
use Rattle.std.proofs.lemmas.Result.{IfOk-from_err}
use Rattle.dpl_spec_split.specs.Graphs.{graph_of}
use Rattle.dpl_odd.specs.Paths.{AreLowest, IsForest}
use Rattle.dpl_odd.proofs.ReportLaws.{none-even, forest-of, level-root, reported-of, reported-odd}
use Rattle.dpl_odd.proofs.odd_cycle.Goals as goal

pub returns-in_default-clause-none : goal.returns-in_default-clause-none
returns-in_default-clause-none c =
    let levels = c.in_ok-levels.levels in
    none-even c.args.edges.now c.args.n levels.roots.items levels.levels.items c.requires c.in_ok-levels.ensures c.in_default.ensures

pub cycle_through-requires-clause-forest : goal.cycle_through-requires-clause-forest
cycle_through-requires-clause-forest c =
    let levels = c.in_ok-levels.levels in
    let parents = c.in_ok-parents.parents in
    let lowest : AreLowest (graph_of c.args.edges.now) c.args.n levels.levels.items parents.items = subst
    (λ xs. AreLowest (graph_of c.args.edges.now) c.args.n xs parents.items) c.deref.ensures.value c.in_ok-parents.ensures in
    let as_many = c.in_ok-levels.ensures.as_many_levels in
    let len : c.args.n ≡ levels.levels.len = omega (arith, as_many, levels.levels.ok.0) in
    subst (λ n. IsForest n levels.roots.items levels.levels.items parents.items) len
    (forest-of c.args.edges.now c.args.n levels.roots.items levels.levels.items parents.items c.requires c.in_ok-levels.ensures lowest)

pub cycle_through-requires-clause-root : goal.cycle_through-requires-clause-root
cycle_through-requires-clause-root c =
    let levels = c.in_ok-levels.levels in
    level-root c.args.edges.now c.args.n levels.roots.items levels.levels.items c.requires c.in_ok-levels.ensures (c.in-Some.u, c.in-Some.v) c.in-Some.ensures

pub returns-clause-reported : goal.returns-clause-reported
returns-clause-reported c =
    let levels = c.in_ok-levels.levels in
    let parents = c.in_ok-parents.parents in
    let lowest : AreLowest (graph_of c.args.edges.now) c.args.n levels.levels.items parents.items = subst
    (λ xs. AreLowest (graph_of c.args.edges.now) c.args.n xs parents.items) c.deref.ensures.value c.in_ok-parents.ensures in
    reported-of c.args.edges.now c.args.n levels.roots.items levels.levels.items parents.items c.requires c.in_ok-levels.ensures lowest
    (c.in-Some.u, c.in-Some.v) c.in-Some.ensures c.in_ok-cycle.cycle.items c.in_ok-cycle.ensures

pub returns-clause-odd : goal.returns-clause-odd
returns-clause-odd c =
    let levels = c.in_ok-levels.levels in
    let parents = c.in_ok-parents.parents in
    let lowest : AreLowest (graph_of c.args.edges.now) c.args.n levels.levels.items parents.items = subst
    (λ xs. AreLowest (graph_of c.args.edges.now) c.args.n xs parents.items) c.deref.ensures.value c.in_ok-parents.ensures in
    reported-odd c.args.edges.now c.args.n c.requires c.in_ok-cycle.cycle.items
    (reported-of c.args.edges.now c.args.n levels.roots.items levels.levels.items parents.items c.requires c.in_ok-levels.ensures lowest
    (c.in-Some.u, c.in-Some.v) c.in-Some.ensures c.in_ok-cycle.cycle.items c.in_ok-cycle.ensures)

pub returns-in_err-levels-clause-none : goal.returns-in_err-levels-clause-none
returns-in_err-levels-clause-none c = IfOk-from_err _ _ c.from_residual.ensures.0

pub returns-in_err-levels-clause-reported : goal.returns-in_err-levels-clause-reported
returns-in_err-levels-clause-reported c = IfOk-from_err _ _ c.from_residual.ensures.0

pub returns-in_err-levels-clause-odd : goal.returns-in_err-levels-clause-odd
returns-in_err-levels-clause-odd c = IfOk-from_err _ _ c.from_residual.ensures.0

pub returns-in_err-parents-clause-none : goal.returns-in_err-parents-clause-none
returns-in_err-parents-clause-none c = IfOk-from_err _ _ c.from_residual-in_err-parents.ensures.0

pub returns-in_err-parents-clause-reported : goal.returns-in_err-parents-clause-reported
returns-in_err-parents-clause-reported c = IfOk-from_err _ _ c.from_residual-in_err-parents.ensures.0

pub returns-in_err-parents-clause-odd : goal.returns-in_err-parents-clause-odd
returns-in_err-parents-clause-odd c = IfOk-from_err _ _ c.from_residual-in_err-parents.ensures.0

pub returns-in_err-cycle-clause-none : goal.returns-in_err-cycle-clause-none
returns-in_err-cycle-clause-none c = IfOk-from_err _ _ c.from_residual-in_err-cycle.ensures.0

pub returns-in_err-cycle-clause-reported : goal.returns-in_err-cycle-clause-reported
returns-in_err-cycle-clause-reported c = IfOk-from_err _ _ c.from_residual-in_err-cycle.ensures.0

pub returns-in_err-cycle-clause-odd : goal.returns-in_err-cycle-clause-odd
returns-in_err-cycle-clause-odd c = IfOk-from_err _ _ c.from_residual-in_err-cycle.ensures.0
