use Rattle.std.proofs.Common.{◌≡◌, ◌+◌, ◌<◌, ◌≤◌, inl, inr, ◌∷◌, [], length, get_or, set, refl, ap, true, arith, length-append, ◌++◌}
use Rattle.std.proofs.lemmas.List.Elements.{Contains-get_or}
use Rattle.std.proofs.lemmas.Result.{IfOk-from_err}
use Rattle.dpl_links.specs.Graph.{targets_at, LeadsTo}
use Rattle.dpl_links.proofs.MarkLaws.{one_less}
use Rattle.dpl_links.proofs.OrderLaws.{mark_read, unmarked_read}
use Rattle.dpl_links.proofs.PartLaws.{one_on, one_new, less_new, less_on}
use Rattle.dpl_links.proofs.levels.Search.go_to.Goals as goal

pub index-requires : goal.index-requires
index-requires c =
    let e : LeadsTo c.args.graph.now c.args.visit.vertex c.args.to = rw (← c.requires.edge)
    (Contains-get_or (targets_at c.args.graph.now c.args.visit.vertex) c.args.visit.gone 0 c.requires.inside) in
    let l = c.requires.graph c.args.visit.vertex c.args.to e in
    omega (arith, l, c.requires.search.closed_each)

pub returns-then-index-clause-search : goal.returns-then-index-clause-search
returns-then-index-clause-search c =
    let e : LeadsTo c.args.graph.now c.args.visit.vertex c.args.to = rw (← c.requires.edge)
    (Contains-get_or (targets_at c.args.graph.now c.args.visit.vertex) c.args.visit.gone 0 c.requires.inside) in
    let l = c.requires.graph c.args.visit.vertex c.args.to e in
    let h : c.args.to < length c.args.self.now.closed.items = omega (arith, l, c.requires.search.closed_each) in
    let m = mark_read c.args.self.now.closed.items c.args.to c.index.result.now _ h c.index.ensures c.if-index.true in
    rw (
      c.in_ok-go_on.ensures.found,
      c.in_ok-go_on.ensures.closed,
      c.in_ok-go_on.ensures.numbers,
      c.in_ok-go_on.ensures.levels,
      c.in_ok-go_on.ensures.finds,
      c.in_ok-go_on.ensures.roots,
      c.in_ok-go_on.ensures.parts,
      c.in_ok-go_on.ensures.path,
    )
    (one_on c.args.graph.now c.args.from _ _ _ _ c.args.self.now.parts.items c.args.top c.args.self.now.path.items c.args.visit _ _
    c.requires.search (record { vertex = c.args.visit.vertex; gone = c.args.visit.gone + 1 }) refl refl (inl (rw c.requires.edge m)))

pub index-requires-2 : goal.index-requires-2
index-requires-2 c =
    let e : LeadsTo c.args.graph.now c.args.visit.vertex c.args.to = rw (← c.requires.edge)
    (Contains-get_or (targets_at c.args.graph.now c.args.visit.vertex) c.args.visit.gone 0 c.requires.inside) in
    let l = c.requires.graph c.args.visit.vertex c.args.to e in
    omega (arith, l, c.requires.search.found_each)

pub find-requires-clause-found : goal.find-requires-clause-found
find-requires-clause-found c =
    let e : LeadsTo c.args.graph.now c.args.visit.vertex c.args.to = rw (← c.requires.edge)
    (Contains-get_or (targets_at c.args.graph.now c.args.visit.vertex) c.args.visit.gone 0 c.requires.inside) in
    let l = c.requires.graph c.args.visit.vertex c.args.to e in
    omega (arith, l, c.requires.search.found_each, ap length c.in_ok-go_on-2.ensures.found)

pub find-requires-clause-numbers : goal.find-requires-clause-numbers
find-requires-clause-numbers c =
    let e : LeadsTo c.args.graph.now c.args.visit.vertex c.args.to = rw (← c.requires.edge)
    (Contains-get_or (targets_at c.args.graph.now c.args.visit.vertex) c.args.visit.gone 0 c.requires.inside) in
    let l = c.requires.graph c.args.visit.vertex c.args.to e in
    omega (arith, l, c.requires.search.numbers_each, ap length c.in_ok-go_on-2.ensures.numbers)

pub returns-then-not-index-clause-search : goal.returns-then-not-index-clause-search
returns-then-not-index-clause-search c =
    let e : LeadsTo c.args.graph.now c.args.visit.vertex c.args.to = rw (← c.requires.edge)
    (Contains-get_or (targets_at c.args.graph.now c.args.visit.vertex) c.args.visit.gone 0 c.requires.inside) in
    let l = c.requires.graph c.args.visit.vertex c.args.to e in
    let h : c.args.to < length c.args.self.now.closed.items = omega (arith, l, c.requires.search.closed_each) in
    let f : c.args.to < length c.args.self.now.found.items = omega (arith, l, c.requires.search.found_each) in
    let more : length c.find.new.self.finds.items ≡ length c.args.self.now.finds.items + 1 = omega (
      arith,
      ap length c.in_ok-find.ensures.finds,
      ap length c.in_ok-go_on-2.ensures.finds,
      length-append c.go_on-then-not-index.new.self.finds.items (c.args.to ∷ []),
    ) in
    let p = c.in_ok-find.ensures.parts in
    rw (
      p.3,
      c.in_ok-go_on-2.ensures.parts,
      c.in_ok-find.ensures.path,
      c.in_ok-go_on-2.ensures.path,
      c.in_ok-find.ensures.closed,
      c.in_ok-go_on-2.ensures.closed,
      c.in_ok-find.ensures.levels,
      c.in_ok-go_on-2.ensures.levels,
      c.in_ok-find.ensures.roots,
      c.in_ok-go_on-2.ensures.roots,
      more,
    )
    (one_new c.args.graph.now c.args.from _ _ _ _ c.args.self.now.parts.items c.args.top c.args.self.now.path.items c.args.visit _ _
    c.requires.search (record { vertex = c.args.visit.vertex; gone = c.args.visit.gone + 1 })
    (record { vertex = c.args.to; gone = 0 }) p.0 _ _ refl refl c.requires.edge refl p.1 p.2 e l
    (unmarked_read c.args.self.now.found.items c.args.to (mark_read c.args.self.now.found.items c.args.to c.index-2.result.now _ f c.index-2.ensures c.if-not-index.true))
    (unmarked_read c.args.self.now.closed.items c.args.to (mark_read c.args.self.now.closed.items c.args.to c.index.result.now _ h c.index.ensures c.if-index.false))
    (rw c.in_ok-go_on-2.ensures.found at c.in_ok-find.ensures.found)
    (rw (c.in_ok-go_on-2.ensures.numbers, c.in_ok-go_on-2.ensures.finds) at c.in_ok-find.ensures.numbers))

pub returns-then-not-index-clause-falls : goal.returns-then-not-index-clause-falls
returns-then-not-index-clause-falls c =
    let e : LeadsTo c.args.graph.now c.args.visit.vertex c.args.to = rw (← c.requires.edge)
    (Contains-get_or (targets_at c.args.graph.now c.args.visit.vertex) c.args.visit.gone 0 c.requires.inside) in
    let l = c.requires.graph c.args.visit.vertex c.args.to e in
    let f : c.args.to < length c.args.self.now.found.items = omega (arith, l, c.requires.search.found_each) in
    let o = one_less c.args.self.now.found.items c.args.to f (mark_read c.args.self.now.found.items c.args.to c.index-2.result.now _ f c.index-2.ensures c.if-not-index.true) in
    let p = c.in_ok-find.ensures.parts in
    rw (c.in_ok-find.ensures.found, c.in_ok-go_on-2.ensures.found, p.3, c.in_ok-go_on-2.ensures.parts, c.in_ok-find.ensures.path, c.in_ok-go_on-2.ensures.path)
    (less_new c.args.graph.now c.args.self.now.found.items (set c.args.self.now.found.items c.args.to true) c.args.self.now.path.items
    c.args.visit (record { vertex = c.args.visit.vertex; gone = c.args.visit.gone + 1 }) (record { vertex = c.args.to; gone = 0 }) _ p.0
    refl refl refl c.requires.inside l o)

pub join_last-requires-clause-found : goal.join_last-requires-clause-found
join_last-requires-clause-found c =
    let e : LeadsTo c.args.graph.now c.args.visit.vertex c.args.to = rw (← c.requires.edge)
    (Contains-get_or (targets_at c.args.graph.now c.args.visit.vertex) c.args.visit.gone 0 c.requires.inside) in
    let l = c.requires.graph c.args.visit.vertex c.args.to e in
    let f : c.args.to < length c.args.self.now.found.items = omega (arith, l, c.requires.search.found_each) in
    mark_read c.args.self.now.found.items c.args.to c.index-2.result.now _ f c.index-2.ensures c.if-not-index.false

pub join_last-requires-clause-unshut : goal.join_last-requires-clause-unshut
join_last-requires-clause-unshut c =
    let e : LeadsTo c.args.graph.now c.args.visit.vertex c.args.to = rw (← c.requires.edge)
    (Contains-get_or (targets_at c.args.graph.now c.args.visit.vertex) c.args.visit.gone 0 c.requires.inside) in
    let l = c.requires.graph c.args.visit.vertex c.args.to e in
    let h : c.args.to < length c.args.self.now.closed.items = omega (arith, l, c.requires.search.closed_each) in
    unmarked_read c.args.self.now.closed.items c.args.to (mark_read c.args.self.now.closed.items c.args.to c.index.result.now _ h c.index.ensures c.if-index.false)

pub returns-clause-search : goal.returns-clause-search
returns-clause-search c =
    let e : LeadsTo c.args.graph.now c.args.visit.vertex c.args.to = rw (← c.requires.edge)
    (Contains-get_or (targets_at c.args.graph.now c.args.visit.vertex) c.args.visit.gone 0 c.requires.inside) in
    let l = c.requires.graph c.args.visit.vertex c.args.to e in
    let f : c.args.to < length c.args.self.now.found.items = omega (arith, l, c.requires.search.found_each) in
    let m = mark_read c.args.self.now.found.items c.args.to c.index-2.result.now _ f c.index-2.ensures c.if-not-index.false in
    let a = rw c.deref.ensures.value at c.number_at.ensures in
    let b = rw c.deref-2.ensures.value at c.number_at-2.ensures in
    let z : get_or c.args.self.now.numbers.items c.args.top.root 0 ≤ get_or c.args.self.now.numbers.items c.args.to 0 = omega (arith, a, b, c.if-number_at.false) in
    rw (
      c.in_ok-go_on-3.ensures.found,
      c.in_ok-go_on-3.ensures.closed,
      c.in_ok-go_on-3.ensures.numbers,
      c.in_ok-go_on-3.ensures.levels,
      c.in_ok-go_on-3.ensures.finds,
      c.in_ok-go_on-3.ensures.roots,
      c.in_ok-go_on-3.ensures.parts,
      c.in_ok-go_on-3.ensures.path,
    )
    (one_on c.args.graph.now c.args.from _ _ _ _ c.args.self.now.parts.items c.args.top c.args.self.now.path.items c.args.visit _ _
    c.requires.search (record { vertex = c.args.visit.vertex; gone = c.args.visit.gone + 1 }) refl refl
    (inr (rw c.requires.edge m, rw c.requires.edge z)))

pub returns-in_err-go_on-clause-search : goal.returns-in_err-go_on-clause-search
returns-in_err-go_on-clause-search c = IfOk-from_err _ _ c.from_residual.ensures.0

pub returns-in_err-go_on-clause-falls : goal.returns-in_err-go_on-clause-falls
returns-in_err-go_on-clause-falls c = IfOk-from_err _ _ c.from_residual.ensures.0

pub returns-in_err-go_on-2-clause-search : goal.returns-in_err-go_on-2-clause-search
returns-in_err-go_on-2-clause-search c = IfOk-from_err _ _ c.from_residual-in_err-go_on-2.ensures.0

pub returns-in_err-go_on-2-clause-falls : goal.returns-in_err-go_on-2-clause-falls
returns-in_err-go_on-2-clause-falls c = IfOk-from_err _ _ c.from_residual-in_err-go_on-2.ensures.0

pub returns-in_err-find-clause-search : goal.returns-in_err-find-clause-search
returns-in_err-find-clause-search c = IfOk-from_err _ _ c.from_residual-in_err-find.ensures.0

pub returns-in_err-find-clause-falls : goal.returns-in_err-find-clause-falls
returns-in_err-find-clause-falls c = IfOk-from_err _ _ c.from_residual-in_err-find.ensures.0

pub returns-in_err-join_last-clause-search : goal.returns-in_err-join_last-clause-search
returns-in_err-join_last-clause-search c = IfOk-from_err _ _ c.from_residual-in_err-join_last.ensures.0

pub returns-in_err-join_last-clause-falls : goal.returns-in_err-join_last-clause-falls
returns-in_err-join_last-clause-falls c = IfOk-from_err _ _ c.from_residual-in_err-join_last.ensures.0

pub returns-in_err-go_on-3-clause-search : goal.returns-in_err-go_on-3-clause-search
returns-in_err-go_on-3-clause-search c = IfOk-from_err _ _ c.from_residual-in_err-go_on-3.ensures.0

pub returns-in_err-go_on-3-clause-falls : goal.returns-in_err-go_on-3-clause-falls
returns-in_err-go_on-3-clause-falls c = IfOk-from_err _ _ c.from_residual-in_err-go_on-3.ensures.0

pub go_on-requires : goal.go_on-requires
go_on-requires c = omega (arith, c.requires.inside, c.requires.few)

pub go_on-requires-2 : goal.go_on-requires-2
go_on-requires-2 c = omega (arith, c.requires.inside, c.requires.few)

pub go_on-requires-then-not-index : goal.go_on-requires-then-not-index
go_on-requires-then-not-index c = omega (arith, c.requires.inside, c.requires.few)

pub returns-then-index-clause-falls : goal.returns-then-index-clause-falls
returns-then-index-clause-falls c =
    rw (c.in_ok-go_on.ensures.found, c.in_ok-go_on.ensures.parts, c.in_ok-go_on.ensures.path)
    (less_on c.args.graph.now c.args.self.now.found.items c.args.self.now.path.items c.args.visit
    (record { vertex = c.args.visit.vertex; gone = c.args.visit.gone + 1 }) (c.args.self.now.parts.items ++ c.args.top ∷ []) refl refl
    c.requires.inside)

pub join_last-requires-clause-search : goal.join_last-requires-clause-search
join_last-requires-clause-search c = c.requires.search

pub join_last-requires-clause-edge : goal.join_last-requires-clause-edge
join_last-requires-clause-edge c = rw (← c.requires.edge)
    (Contains-get_or (targets_at c.args.graph.now c.args.visit.vertex) c.args.visit.gone 0 c.requires.inside)

pub returns-then-number_at-clause-search : goal.returns-then-number_at-clause-search
returns-then-number_at-clause-search c = c.in_ok-join_last.ensures.search

pub returns-then-number_at-clause-falls : goal.returns-then-number_at-clause-falls
returns-then-number_at-clause-falls c = c.in_ok-join_last.ensures.falls

pub returns-clause-falls : goal.returns-clause-falls
returns-clause-falls c =
    rw (c.in_ok-go_on-3.ensures.found, c.in_ok-go_on-3.ensures.parts, c.in_ok-go_on-3.ensures.path)
    (less_on c.args.graph.now c.args.self.now.found.items c.args.self.now.path.items c.args.visit
    (record { vertex = c.args.visit.vertex; gone = c.args.visit.gone + 1 }) (c.args.self.now.parts.items ++ c.args.top ∷ []) refl refl
    c.requires.inside)
