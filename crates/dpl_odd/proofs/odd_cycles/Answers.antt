use Rattle.std.proofs.Common.{◌≡◌, ℕ, List, Option, Some, length, subst, sym, arith}
use Rattle.std.specs.List.{Contains}
use Rattle.std.proofs.lemmas.Result.{IfOk-from_err, IfOk-weaker}
use Rattle.dpl_spec_split.specs.Graphs.{graph_of}
use Rattle.dpl_odd.specs.Paths.{AreLowest, IsForest}
use Rattle.dpl_odd.specs.Tables.{AreClosed, IsClosing}
use Rattle.dpl_odd.specs.All.{AreOddCycles}
use Rattle.dpl_odd.proofs.ReportLaws.{forest-of}
use Rattle.dpl_odd.proofs.AllLaws.{closing-of, cycles-of, all-odd, none-left, first-reported}
use Rattle.dpl_odd.proofs.odd_cycles.Goals as goal

pub cycles_through-requires-clause-forest : goal.cycles_through-requires-clause-forest
cycles_through-requires-clause-forest c =
    let levels = c.in_ok-levels.levels in
    let parents = c.in_ok-parents.parents in
    let lowest : AreLowest (graph_of c.args.edges.now) c.args.n levels.levels.items parents.items = subst
    (λ xs. AreLowest (graph_of c.args.edges.now) c.args.n xs parents.items) c.deref.ensures.value c.in_ok-parents.ensures in
    let as_many = c.in_ok-levels.ensures.as_many_levels in
    let len : c.args.n ≡ levels.levels.len = omega (arith, as_many, levels.levels.ok.0) in
    subst (λ n. IsForest n levels.roots.items levels.levels.items parents.items) len
    (forest-of c.args.edges.now c.args.n levels.roots.items levels.levels.items parents.items c.requires c.in_ok-levels.ensures lowest)

pub cycles_through-requires-clause-closing : goal.cycles_through-requires-clause-closing
cycles_through-requires-clause-closing c = λ e there.
    let levels = c.in_ok-levels.levels in
    let least = c.in_ok-least.least in
    let as_many = c.in_ok-levels.ensures.as_many_levels in
    let len : c.args.n ≡ levels.levels.len = omega (arith, as_many, levels.levels.ok.0) in
    subst (λ n. IsClosing n levels.roots.items levels.levels.items e) len
    (closing-of c.args.edges.now c.args.n levels.roots.items levels.levels.items c.requires c.in_ok-levels.ensures least.items c.in_ok-least.ensures e
    (subst (λ (xs : List (Option (ℕ × ℕ))). Contains xs (Some e)) c.deref-2.ensures.value there))

pub returns-clause-cycles : goal.returns-clause-cycles
returns-clause-cycles c =
    let levels = c.in_ok-levels.levels in
    let parents = c.in_ok-parents.parents in
    let least = c.in_ok-least.least in
    let lowest : AreLowest (graph_of c.args.edges.now) c.args.n levels.levels.items parents.items = subst
    (λ xs. AreLowest (graph_of c.args.edges.now) c.args.n xs parents.items) c.deref.ensures.value c.in_ok-parents.ensures in
    IfOk-weaker c.cycles_through.result _ _
    (λ cycles (tops, closed).
    cycles-of c.args.edges.now c.args.n levels.roots.items levels.levels.items parents.items c.requires c.in_ok-levels.ensures lowest least.items
    c.in_ok-least.ensures tops cycles.items
    (subst (λ (xs : List (Option (ℕ × ℕ))). AreClosed levels.levels.items parents.items xs (length xs) tops cycles.items) c.deref-2.ensures.value closed))
    c.cycles_through.ensures

pub returns-clause-odd : goal.returns-clause-odd
returns-clause-odd c = IfOk-weaker c.cycles_through.result _ _ (λ cycles are. all-odd c.args.edges.now c.args.n c.requires cycles.items are) (returns-clause-cycles c)

pub returns-clause-none : goal.returns-clause-none
returns-clause-none c = IfOk-weaker c.cycles_through.result _ _ (λ cycles are. none-left c.args.edges.now c.args.n c.requires cycles.items are) (returns-clause-cycles c)

pub returns-clause-first : goal.returns-clause-first
returns-clause-first c = IfOk-weaker c.cycles_through.result _ _ (λ cycles are. first-reported c.args.edges.now c.args.n c.requires cycles.items are) (returns-clause-cycles c)

pub returns-in_err-levels-clause-cycles : goal.returns-in_err-levels-clause-cycles
returns-in_err-levels-clause-cycles c = IfOk-from_err _ _ c.from_residual.ensures.0

pub returns-in_err-levels-clause-odd : goal.returns-in_err-levels-clause-odd
returns-in_err-levels-clause-odd c = IfOk-from_err _ _ c.from_residual.ensures.0

pub returns-in_err-levels-clause-none : goal.returns-in_err-levels-clause-none
returns-in_err-levels-clause-none c = IfOk-from_err _ _ c.from_residual.ensures.0

pub returns-in_err-levels-clause-first : goal.returns-in_err-levels-clause-first
returns-in_err-levels-clause-first c = IfOk-from_err _ _ c.from_residual.ensures.0

pub returns-in_err-least-clause-cycles : goal.returns-in_err-least-clause-cycles
returns-in_err-least-clause-cycles c = IfOk-from_err _ _ c.from_residual-in_err-least.ensures.0

pub returns-in_err-least-clause-odd : goal.returns-in_err-least-clause-odd
returns-in_err-least-clause-odd c = IfOk-from_err _ _ c.from_residual-in_err-least.ensures.0

pub returns-in_err-least-clause-none : goal.returns-in_err-least-clause-none
returns-in_err-least-clause-none c = IfOk-from_err _ _ c.from_residual-in_err-least.ensures.0

pub returns-in_err-least-clause-first : goal.returns-in_err-least-clause-first
returns-in_err-least-clause-first c = IfOk-from_err _ _ c.from_residual-in_err-least.ensures.0

pub returns-in_err-parents-clause-cycles : goal.returns-in_err-parents-clause-cycles
returns-in_err-parents-clause-cycles c = IfOk-from_err _ _ c.from_residual-in_err-parents.ensures.0

pub returns-in_err-parents-clause-odd : goal.returns-in_err-parents-clause-odd
returns-in_err-parents-clause-odd c = IfOk-from_err _ _ c.from_residual-in_err-parents.ensures.0

pub returns-in_err-parents-clause-none : goal.returns-in_err-parents-clause-none
returns-in_err-parents-clause-none c = IfOk-from_err _ _ c.from_residual-in_err-parents.ensures.0

pub returns-in_err-parents-clause-first : goal.returns-in_err-parents-clause-first
returns-in_err-parents-clause-first c = IfOk-from_err _ _ c.from_residual-in_err-parents.ensures.0
