use Rattle.std.proofs.Common.{◌+◌, ◌<◌, length, refl, ap, arith, true, set}
use Rattle.std.proofs.lemmas.Result.{IfOk-from_err}
use Rattle.dpl_links.specs.Graph.{targets_at}
use Rattle.dpl_links.proofs.MarkLaws.{one_less}
use Rattle.dpl_links.proofs.OrderLaws.{known, cycle, one_more, one_found, one_shut, left_shut, left_more, left_found, none_past, some_inside, leads_to, mark_read, unmarked_read}
use Rattle.dpl_links.proofs.order.Search.go_down.Goals as goal

pub returns-in_default-clause-search : goal.returns-in_default-clause-search
returns-in_default-clause-search c =
    rw (c.in_ok-close.ensures.found, c.in_ok-close.ensures.path)
    (one_shut c.args.graph.now c.args.from _ _ _ _ _ c.args.visit c.requires.search _ _ _
    (none_past (targets_at c.args.graph.now c.args.visit.vertex) c.args.visit.gone 0 c.in_default.ensures.target)
    c.in_ok-close.ensures.closed c.in_ok-close.ensures.levels c.in_ok-close.ensures.vertices)

pub returns-in_default-clause-falls : goal.returns-in_default-clause-falls
returns-in_default-clause-falls c =
    rw (c.in_ok-close.ensures.found, c.in_ok-close.ensures.path)
    (left_shut c.args.graph.now c.args.self.now.found.items c.args.self.now.path.items c.args.visit)

pub index-requires : goal.index-requires
index-requires c =
    let k = known c.args.graph.now c.args.from _ _ _ _ _ c.args.visit c.requires.search in
    let l = c.requires.graph c.args.visit.vertex c.in-Some.to (leads_to c.args.graph.now c.args.visit.vertex c.args.visit.gone c.in-Some.to c.in-Some.ensures.target) in
    omega (arith, l, c.requires.search.closed_each)

pub go_on-requires : goal.go_on-requires
go_on-requires c =
    let s = some_inside (targets_at c.args.graph.now c.args.visit.vertex) c.args.visit.gone 0 c.in-Some.to c.in-Some.ensures.target in
    omega (arith, s.0, c.target.ensures.few)

pub returns-then-index-clause-search : goal.returns-then-index-clause-search
returns-then-index-clause-search c =
    let s = some_inside (targets_at c.args.graph.now c.args.visit.vertex) c.args.visit.gone 0 c.in-Some.to c.in-Some.ensures.target in
    let l = c.requires.graph c.args.visit.vertex c.in-Some.to (leads_to c.args.graph.now c.args.visit.vertex c.args.visit.gone c.in-Some.to c.in-Some.ensures.target) in
    let h : c.in-Some.to < length c.args.self.now.closed.items = omega (arith, l, c.requires.search.closed_each) in
    let m = mark_read c.args.self.now.closed.items c.in-Some.to c.index.result.now _ h c.index.ensures c.if-index.true in
    rw (c.in_ok-go_on.ensures.found, c.in_ok-go_on.ensures.closed, c.in_ok-go_on.ensures.levels, c.in_ok-go_on.ensures.vertices, c.in_ok-go_on.ensures.path)
    (one_more c.args.graph.now c.args.from _ _ _ _ _ c.args.visit c.requires.search (record { vertex = c.args.visit.vertex; gone = c.args.visit.gone + 1 }) refl refl (rw s.1 m))

pub returns-then-index-clause-falls : goal.returns-then-index-clause-falls
returns-then-index-clause-falls c =
    let s = some_inside (targets_at c.args.graph.now c.args.visit.vertex) c.args.visit.gone 0 c.in-Some.to c.in-Some.ensures.target in
    rw (c.in_ok-go_on.ensures.found, c.in_ok-go_on.ensures.path)
    (left_more c.args.graph.now c.args.self.now.found.items c.args.self.now.path.items c.args.visit
    (record { vertex = c.args.visit.vertex; gone = c.args.visit.gone + 1 }) refl refl s.0)

pub index-requires-2 : goal.index-requires-2
index-requires-2 c =
    let l = c.requires.graph c.args.visit.vertex c.in-Some.to (leads_to c.args.graph.now c.args.visit.vertex c.args.visit.gone c.in-Some.to c.in-Some.ensures.target) in
    omega (arith, l, c.requires.search.found_each)

pub returns-then-index-2-clause-search : goal.returns-then-index-2-clause-search
returns-then-index-2-clause-search c =
    let e = leads_to c.args.graph.now c.args.visit.vertex c.args.visit.gone c.in-Some.to c.in-Some.ensures.target in
    let l = c.requires.graph c.args.visit.vertex c.in-Some.to e in
    let h : c.in-Some.to < length c.args.self.now.closed.items = omega (arith, l, c.requires.search.closed_each) in
    let k : c.in-Some.to < length c.args.self.now.found.items = omega (arith, l, c.requires.search.found_each) in
    cycle c.args.graph.now c.args.from _ _ _ _ _ c.args.visit c.requires.search c.in-Some.to e
    (mark_read c.args.self.now.found.items c.in-Some.to c.index-2.result.now _ k c.index-2.ensures c.if-index-2.true)
    (unmarked_read c.args.self.now.closed.items c.in-Some.to (mark_read c.args.self.now.closed.items c.in-Some.to c.index.result.now _ h c.index.ensures c.if-index.false))

pub go_on-requires-2 : goal.go_on-requires-2
go_on-requires-2 c =
    let s = some_inside (targets_at c.args.graph.now c.args.visit.vertex) c.args.visit.gone 0 c.in-Some.to c.in-Some.ensures.target in
    omega (arith, s.0, c.target.ensures.few)

pub find-requires : goal.find-requires
find-requires c =
    let l = c.requires.graph c.args.visit.vertex c.in-Some.to (leads_to c.args.graph.now c.args.visit.vertex c.args.visit.gone c.in-Some.to c.in-Some.ensures.target) in
    omega (arith, l, c.requires.search.found_each, ap (length) c.in_ok-go_on-2.ensures.found)

pub returns-clause-search : goal.returns-clause-search
returns-clause-search c =
    let e = leads_to c.args.graph.now c.args.visit.vertex c.args.visit.gone c.in-Some.to c.in-Some.ensures.target in
    let s = some_inside (targets_at c.args.graph.now c.args.visit.vertex) c.args.visit.gone 0 c.in-Some.to c.in-Some.ensures.target in
    let l = c.requires.graph c.args.visit.vertex c.in-Some.to e in
    let h : c.in-Some.to < length c.args.self.now.closed.items = omega (arith, l, c.requires.search.closed_each) in
    let k : c.in-Some.to < length c.args.self.now.found.items = omega (arith, l, c.requires.search.found_each) in
    rw (
      c.in_ok-find.ensures.path,
      c.in_ok-go_on-2.ensures.path,
      c.in_ok-find.ensures.closed,
      c.in_ok-go_on-2.ensures.closed,
      c.in_ok-find.ensures.levels,
      c.in_ok-go_on-2.ensures.levels,
      c.in_ok-find.ensures.vertices,
      c.in_ok-go_on-2.ensures.vertices,
    )
    (one_found c.args.graph.now c.args.from _ _ _ _ _ c.args.visit c.requires.search
    (record { vertex = c.args.visit.vertex; gone = c.args.visit.gone + 1 }) (record { vertex = c.in-Some.to; gone = 0 }) _ refl refl s.1
    refl e l
    (unmarked_read c.args.self.now.found.items c.in-Some.to (mark_read c.args.self.now.found.items c.in-Some.to c.index-2.result.now _ k c.index-2.ensures c.if-index-2.false))
    (unmarked_read c.args.self.now.closed.items c.in-Some.to (mark_read c.args.self.now.closed.items c.in-Some.to c.index.result.now _ h c.index.ensures c.if-index.false))
    (rw c.in_ok-go_on-2.ensures.found at c.in_ok-find.ensures.found))

pub returns-clause-falls : goal.returns-clause-falls
returns-clause-falls c =
    let e = leads_to c.args.graph.now c.args.visit.vertex c.args.visit.gone c.in-Some.to c.in-Some.ensures.target in
    let s = some_inside (targets_at c.args.graph.now c.args.visit.vertex) c.args.visit.gone 0 c.in-Some.to c.in-Some.ensures.target in
    let l = c.requires.graph c.args.visit.vertex c.in-Some.to e in
    let k : c.in-Some.to < length c.args.self.now.found.items = omega (arith, l, c.requires.search.found_each) in
    let o = one_less c.args.self.now.found.items c.in-Some.to k
    (mark_read c.args.self.now.found.items c.in-Some.to c.index-2.result.now _ k c.index-2.ensures c.if-index-2.false) in
    rw (c.in_ok-find.ensures.found, c.in_ok-find.ensures.path, c.in_ok-go_on-2.ensures.path, c.in_ok-go_on-2.ensures.found)
    (left_found c.args.graph.now c.args.self.now.found.items (set c.args.self.now.found.items c.in-Some.to true) c.args.self.now.path.items
    c.args.visit (record { vertex = c.args.visit.vertex; gone = c.args.visit.gone + 1 })
    (record { vertex = c.in-Some.to; gone = 0 }) refl refl refl s.0 l o)

pub returns-in_err-close-clause-search : goal.returns-in_err-close-clause-search
returns-in_err-close-clause-search c = IfOk-from_err _ _ c.from_residual.ensures.0

pub returns-in_err-close-clause-falls : goal.returns-in_err-close-clause-falls
returns-in_err-close-clause-falls c = IfOk-from_err _ _ c.from_residual.ensures.0

pub returns-in_err-go_on-clause-search : goal.returns-in_err-go_on-clause-search
returns-in_err-go_on-clause-search c = IfOk-from_err _ _ c.from_residual-in_err-go_on.ensures.0

pub returns-in_err-go_on-clause-falls : goal.returns-in_err-go_on-clause-falls
returns-in_err-go_on-clause-falls c = IfOk-from_err _ _ c.from_residual-in_err-go_on.ensures.0

pub returns-in_err-go_on-2-clause-search : goal.returns-in_err-go_on-2-clause-search
returns-in_err-go_on-2-clause-search c = IfOk-from_err _ _ c.from_residual-in_err-go_on-2.ensures.0

pub returns-in_err-go_on-2-clause-falls : goal.returns-in_err-go_on-2-clause-falls
returns-in_err-go_on-2-clause-falls c = IfOk-from_err _ _ c.from_residual-in_err-go_on-2.ensures.0

pub returns-in_err-find-clause-search : goal.returns-in_err-find-clause-search
returns-in_err-find-clause-search c = IfOk-from_err _ _ c.from_residual-in_err-find.ensures.0

pub returns-in_err-find-clause-falls : goal.returns-in_err-find-clause-falls
returns-in_err-find-clause-falls c = IfOk-from_err _ _ c.from_residual-in_err-find.ensures.0
