use Rattle.std.proofs.Common.{◌≡◌, ◌+◌, ◌∷◌, ◌++◌, [], length, ap, arith, length-append}
use Rattle.std.proofs.lemmas.Result.{IfOk-from_err}
use Rattle.dpl_links.proofs.PartLaws.{one_back, one_part, q_known, less_back, less_part}
use Rattle.dpl_links.proofs.levels.Search.go_back.Goals as goal

pub returns-then-top-visit-clause-search : goal.returns-then-top-visit-clause-search
returns-then-top-visit-clause-search c = rw c.in_ok-push.ensures.items
    (one_back c.args.graph.now c.args.from _ _ _ _ c.args.self.now.parts.items c.args.top c.args.self.now.path.items c.args.visit _ _
    c.requires.search c.requires.done c.if-top-visit.true)

pub close_all-requires-clause-closed : goal.close_all-requires-clause-closed
close_all-requires-clause-closed c = rw c.deref.ensures.value
    (λ k d h. let x = q_known c.args.graph.now c.args.from _ _ _ _ c.args.self.now.parts.items c.args.top c.args.self.now.path.items
    c.args.visit _ _ c.requires.search k d h in omega (arith, x, c.requires.search.closed_each))

pub close_all-requires-clause-levels : goal.close_all-requires-clause-levels
close_all-requires-clause-levels c = rw c.deref.ensures.value
    (λ k d h. let x = q_known c.args.graph.now c.args.from _ _ _ _ c.args.self.now.parts.items c.args.top c.args.self.now.path.items
    c.args.visit _ _ c.requires.search k d h in omega (arith, x, c.requires.search.levels_each))

pub returns-clause-search : goal.returns-clause-search
returns-clause-search c =
    let e : length c.push-2.new.self.items ≡ length c.args.self.now.roots.items + 1 = omega (
      arith,
      ap length c.in_ok-push-2.ensures.items,
      length-append c.args.self.now.roots.items (c.args.top.root ∷ []),
    ) in
    let a = rw c.deref.ensures.value at c.close_all.ensures in
    rw e
    (one_part c.args.graph.now c.args.from _ _ _ _ c.args.self.now.parts.items c.args.top c.args.self.now.path.items c.args.visit _ _
    c.requires.search c.close_all.new.closed.items c.close_all.new.levels.items c.requires.done c.if-top-visit.false a.each a.levels_each
    a.keeps a.sets a.alone (λ k h. let l = a.level_is k h in omega (arith, l, c.len.ensures, c.args.self.now.roots.ok.0)) a.stays)

pub returns-in_err-push-clause-search : goal.returns-in_err-push-clause-search
returns-in_err-push-clause-search c = IfOk-from_err _ _ c.from_residual.ensures.0

pub returns-in_err-push-clause-falls : goal.returns-in_err-push-clause-falls
returns-in_err-push-clause-falls c = IfOk-from_err _ _ c.from_residual.ensures.0

pub returns-in_err-push-2-clause-search : goal.returns-in_err-push-2-clause-search
returns-in_err-push-2-clause-search c = IfOk-from_err _ _ c.from_residual-in_err-push-2.ensures.0

pub returns-in_err-push-2-clause-falls : goal.returns-in_err-push-2-clause-falls
returns-in_err-push-2-clause-falls c = IfOk-from_err _ _ c.from_residual-in_err-push-2.ensures.0

pub returns-then-top-visit-clause-falls : goal.returns-then-top-visit-clause-falls
returns-then-top-visit-clause-falls c = rw c.in_ok-push.ensures.items
    (less_back c.args.graph.now c.args.self.now.found.items c.args.self.now.path.items c.args.visit (c.args.self.now.parts.items ++ c.args.top ∷ []))

pub returns-clause-falls : goal.returns-clause-falls
returns-clause-falls c =
    less_part c.args.graph.now c.args.self.now.found.items c.args.self.now.path.items c.args.visit c.args.self.now.parts.items c.args.top
