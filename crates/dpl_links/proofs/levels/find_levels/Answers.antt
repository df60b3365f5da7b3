use Rattle.std.proofs.Common.{◌∷◌, [], refl, ap, length, arith, ◌∙◌, length-append}
use Rattle.std.proofs.lemmas.Result.{IfOk-from_err}
use Rattle.dpl_links.proofs.PartLaws.{parts_start, parts_all}
use Rattle.dpl_links.proofs.levels.find_levels.Goals as goal

pub loop-visit-init : goal.loop-visit-init
loop-visit-init c =
    let p = c.in_ok-find.ensures.parts in
    parts_start c.args.graph.now c.args.from _ _ _ _ _ _ _ _ _ _ p.0 (record { vertex = c.args.from; gone = 0 }) _ _ _ c.requires.from refl
    refl p.1 p.2 c.in_ok-search.ensures.found c.in_ok-find.ensures.found (c.in_ok-find.ensures.closed ∙ c.in_ok-search.ensures.closed)
    c.in_ok-search.ensures.numbers c.in_ok-find.ensures.numbers (ap length c.in_ok-search.ensures.finds) (c.in_ok-find.ensures.levels
    ∙ c.in_ok-search.ensures.levels) c.in_ok-search.ensures.parts p.3 c.in_ok-search.ensures.path c.in_ok-find.ensures.path
    (omega (arith, ap length c.in_ok-find.ensures.finds, length-append c.in_ok-search.search.finds.items (c.args.from ∷ [])))

pub returns-clause-each : goal.returns-clause-each
returns-clause-each c = c.loop-visit.invariant.levels_each

pub returns-clause-levels : goal.returns-clause-levels
returns-clause-levels c = parts_all c.args.graph.now c.args.from c.loop-visit.search.found.items c.loop-visit.search.closed.items
    c.loop-visit.search.numbers.items c.loop-visit.search.levels.items c.loop-visit.search.parts.items c.loop-visit.search.path.items _ _
    (omega (arith, c.loop-visit.search.path.ok.0, c.in_default.ensures.cases.0)) c.loop-visit.invariant

pub returns-in_err-search-clause-levels : goal.returns-in_err-search-clause-levels
returns-in_err-search-clause-levels c = IfOk-from_err _ _ c.from_residual.ensures.0

pub returns-in_err-search-clause-each : goal.returns-in_err-search-clause-each
returns-in_err-search-clause-each c = IfOk-from_err _ _ c.from_residual.ensures.0

pub returns-in_err-find-clause-levels : goal.returns-in_err-find-clause-levels
returns-in_err-find-clause-levels c = IfOk-from_err _ _ c.from_residual-in_err-find.ensures.0

pub returns-in_err-find-clause-each : goal.returns-in_err-find-clause-each
returns-in_err-find-clause-each c = IfOk-from_err _ _ c.from_residual-in_err-find.ensures.0

pub returns-in_err-go_down-clause-levels : goal.returns-in_err-go_down-clause-levels
returns-in_err-go_down-clause-levels c = IfOk-from_err _ _ c.from_residual-in_err-go_down.ensures.0

pub returns-in_err-go_down-clause-each : goal.returns-in_err-go_down-clause-each
returns-in_err-go_down-clause-each c = IfOk-from_err _ _ c.from_residual-in_err-go_down.ensures.0
