use Rattle.std.proofs.Common.{◌≡◌, ◌<◌, ◌++◌, ◌∷◌, [], length, ap, arith, rules}
use Rattle.std.proofs.lemmas.List.{length_push}
use Rattle.dpl_slabs.proofs.LoopLaws.{put-none, put-more, put-all}
use Rattle.std.proofs.lemmas.Result.{IfOk-from_err}
use Rattle.dpl_slabs.proofs.loops.rects_of_loops_by.Goals as goal

pub loop-list-init : goal.loop-list-init
loop-list-init g c =
    let len : length c.in_ok-lists.lists.items ≡ c.workers_for-count.result = omega (arith, c.in_ok-lists.lists.ok.0, c.in_ok-lists.ensures.len) in
    rw c.new-rects.ensures.items (put-none c.args.loops.now c.workers_for-count.result c.in_ok-lists.lists.items len c.workers_for-count.ensures
    (λ k d l. let at : k < c.workers_for-count.result = omega (arith, l, len) in search rules))

pub loop-list-smaller : goal.loop-list-smaller
loop-list-smaller g c =
    let is : c.loop-list.lists.items ≡ c.pop.new.self.items ++ c.in-Some.list ∷ [] = c.in-Some.ensures.items in
    omega (arith, ap length is, length_push c.pop.new.self.items c.in-Some.list)

pub loop-list-preserved : goal.loop-list-preserved
loop-list-preserved g c = put-more c.args.loops.now c.workers_for-count.result c.loop-list.lists.items c.pop.new.self.items c.in-Some.list c.in_ok-list.field-0
    c.loop-list.rects.items _ c.in-Some.ensures.items c.in_ok-list.was c.in_ok-rects.ensures c.loop-list.invariant

pub returns : goal.returns
returns g c =
    let none : length c.loop-list.lists.items ≡ 0 = search rules in
    put-all c.args.loops.now c.workers_for-count.result c.loop-list.lists.items c.loop-list.rects.items none c.loop-list.invariant

pub returns-in_err-lists : goal.returns-in_err-lists
returns-in_err-lists g c = IfOk-from_err _ _ c.from_residual.ensures.0

pub returns-in_err-rects : goal.returns-in_err-rects
returns-in_err-rects g c = IfOk-from_err _ _ c.from_residual-in_err-rects.ensures.0

pub returns-in_err-list : goal.returns-in_err-list
returns-in_err-list g c = IfOk-from_err _ _ c.from_residual-in_err-list.ensures.0
