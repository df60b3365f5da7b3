use Rattle.std.proofs.Common.{refl, arith}
use Rattle.std.proofs.lemmas.Result.{IfOk-from_err}
use Rattle.dpl_links.proofs.OrderLaws.{search_start, search_all}
use Rattle.dpl_links.proofs.order.find_order.Goals as goal

pub loop-visit-init : goal.loop-visit-init
loop-visit-init c =
    search_start c.args.graph.now c.args.from _ _ _ _ _ _ _ (record { vertex = c.args.from; gone = 0 }) c.requires.from refl refl
    c.in_ok-search.ensures.found c.in_ok-find.ensures.found (rw c.in_ok-find.ensures.closed c.in_ok-search.ensures.closed)
    (rw c.in_ok-find.ensures.levels c.in_ok-search.ensures.levels) (rw c.in_ok-find.ensures.vertices c.in_ok-search.ensures.vertices)
    c.in_ok-search.ensures.path c.in_ok-find.ensures.path

pub returns : goal.returns
returns c = search_all c.args.graph.now c.args.from c.loop-visit.search.found.items c.loop-visit.search.closed.items
    c.loop-visit.search.levels.items c.loop-visit.search.vertices.items c.loop-visit.search.path.items
    (omega (arith, c.loop-visit.search.path.ok.0, c.in_default.ensures.cases.0)) c.loop-visit.invariant

pub returns-in_err-search : goal.returns-in_err-search
returns-in_err-search c = IfOk-from_err _ _ c.from_residual.ensures.0

pub returns-in_err-find : goal.returns-in_err-find
returns-in_err-find c = IfOk-from_err _ _ c.from_residual-in_err-find.ensures.0

pub returns-in_err-go_down : goal.returns-in_err-go_down
returns-in_err-go_down c = IfOk-from_err _ _ c.from_residual-in_err-go_down.ensures.0
