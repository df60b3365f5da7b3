use Rattle.std.proofs.Common.{◌≡◌, ◌<◌, ◌++◌, ◌∷◌, [], length, ap, arith, rules}
use Rattle.std.proofs.lemmas.List.{length_push}
use Rattle.std.proofs.lemmas.Result.{IfOk-from_err}
use Rattle.dpl_tile.proofs.Taking.{taken-all, taken-more, taken-none}
use Rattle.dpl_edges.specs.Found.{IsDealtEdge}
use Rattle.dpl_edges.proofs.Finding.{edges-of_workers}
use Rattle.dpl_edges.proofs.pairs.found_edges_by.Goals as goal

pub loop-list-init : goal.loop-list-init
loop-list-init g c =
    let len : length c.in_ok-lists.lists.items ≡ c.workers_for-count.result = omega (arith, c.in_ok-lists.lists.ok.0, c.in_ok-lists.ensures.len) in
    taken-none (IsDealtEdge c.args.spacing c.args.owners.now c.args.join.now c.workers_for-count.result) c.workers_for-count.result c.in_ok-lists.lists.items
    c.new-found.result.items len c.new-found.ensures.items
    (λ k d l. let at : k < c.workers_for-count.result = omega (arith, l, len) in search rules)

pub loop-list-smaller : goal.loop-list-smaller
loop-list-smaller g c =
    let is : c.loop-list.lists.items ≡ c.pop.new.self.items ++ c.in-Some.list ∷ [] = c.in-Some.ensures.items in
    omega (arith, ap length is, length_push c.pop.new.self.items c.in-Some.list)

pub loop-list-preserved : goal.loop-list-preserved
loop-list-preserved g c = taken-more (IsDealtEdge c.args.spacing c.args.owners.now c.args.join.now c.workers_for-count.result) c.workers_for-count.result c.loop-list.lists.items
    c.pop.new.self.items c.in-Some.list c.in_ok-list.list c.loop-list.found.items c.append.new.self.items c.in-Some.ensures.items c.in_ok-list.was c.in_ok-append.ensures.items
    c.loop-list.invariant

pub returns : goal.returns
returns g c =
    let none : length c.loop-list.lists.items ≡ 0 = search rules in
    edges-of_workers c.args.spacing c.args.owners.now c.args.join.now c.workers_for-count.result c.loop-list.found.items c.workers_for-count.ensures
    (taken-all (IsDealtEdge c.args.spacing c.args.owners.now c.args.join.now c.workers_for-count.result) c.workers_for-count.result c.loop-list.lists.items c.loop-list.found.items
    none c.loop-list.invariant)

pub returns-in_err-lists : goal.returns-in_err-lists
returns-in_err-lists g c = IfOk-from_err _ _ c.from_residual.ensures.0

pub returns-in_err-list : goal.returns-in_err-list
returns-in_err-list g c = IfOk-from_err _ _ c.from_residual-in_err-list.ensures.0

pub returns-in_err-append : goal.returns-in_err-append
returns-in_err-append g c = IfOk-from_err _ _ c.from_residual-in_err-append.ensures.0
