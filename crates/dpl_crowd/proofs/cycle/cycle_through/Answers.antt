use Rattle.std.proofs.Common.{◌≡◌, ◌++◌, ◌∷◌, ◌∙◌, [], ℕ, List, reverse, ap, length}
use Rattle.std.proofs.lemmas.Result.{IfOk-from_err}
use Rattle.dpl_crowd.specs.Crowds.{graph_in}
use Rattle.dpl_crowd.proofs.ForkLaws.{climb-end, climb-high, climb-start, climb-step}
use Rattle.dpl_crowd.proofs.cycle.cycle_through.Goals as goal

pub loop-top-init : goal.loop-top-init
loop-top-init c = climb-start (graph_in c.args.crowd.now) c.args.levels.now c.args.edge c.new-cycle.result.items c.new-rest.result.items
    c.requires.edge c.new-cycle.ensures.items c.new-rest.ensures.items

pub parent-requires-clause-high : goal.parent-requires-clause-high
parent-requires-clause-high c = climb-high (graph_in c.args.crowd.now) (length c.args.crowd.now.parts) c.args.depth c.args.levels.now c.requires.levels c.loop-top.invariant c.loop-top-test.true

pub loop-top-preserved : goal.loop-top-preserved
loop-top-preserved c = climb-step (graph_in c.args.crowd.now) c.args.levels.now c.args.edge.0 c.args.edge.1 c.loop-top.top c.loop-top.other c.in_ok-top.top c.in_ok-other.other
    c.loop-top.cycle.items c.loop-top.rest.items c.push.new.self.items c.push-in-loop-top.new.self.items c.loop-top.invariant c.loop-top-test.true c.in_ok-push.ensures.items
    c.in_ok-push-2.ensures.items c.in_ok-top.ensures.parent c.in_ok-other.ensures.parent c.in_ok-top.ensures.known c.in_ok-other.ensures.known c.in_ok-top.ensures.lower
    c.in_ok-other.ensures.lower

pub returns : goal.returns
returns c =
    let pushed : c.push-2.new.self.items ≡ c.loop-top.cycle.items ++ c.loop-top.top ∷ [] = c.in_ok-push-3.ensures.items in
    let reversed : c.reverse.new.self.items ≡ reverse c.push-2.new.self.items = c.reverse.ensures.items in
    let rest : c.deref.result.now ≡ c.loop-top.rest.items = c.deref.ensures.value in
    let all : c.extend_from_slice.new.self.items ≡ c.reverse.new.self.items ++ c.deref.result.now = c.in_ok-extend_from_slice.ensures.items in
    climb-end (graph_in c.args.crowd.now) c.args.levels.now c.args.edge c.loop-top.top c.loop-top.other c.loop-top.cycle.items c.loop-top.rest.items c.extend_from_slice.new.self.items
    c.requires.edge c.loop-top.invariant c.loop-top-test.false
    (all ∙ (ap (λ xs. let ys : List ℕ = xs in ys ++ c.deref.result.now) (reversed ∙ ap reverse pushed)
    ∙ ap (λ ys. reverse (c.loop-top.cycle.items ++ c.loop-top.top ∷ []) ++ ys) rest))

pub returns-in_err-push : goal.returns-in_err-push
returns-in_err-push c = IfOk-from_err _ _ c.from_residual.ensures.0

pub returns-in_err-push-2 : goal.returns-in_err-push-2
returns-in_err-push-2 c = IfOk-from_err _ _ c.from_residual-in_err-push-2.ensures.0

pub returns-in_err-top : goal.returns-in_err-top
returns-in_err-top c = IfOk-from_err _ _ c.from_residual-in_err-top.ensures.0

pub returns-in_err-other : goal.returns-in_err-other
returns-in_err-other c = IfOk-from_err _ _ c.from_residual-in_err-other.ensures.0

pub returns-in_err-push-3 : goal.returns-in_err-push-3
returns-in_err-push-3 c = IfOk-from_err _ _ c.from_residual-in_err-push-3.ensures.0

pub returns-in_err-extend_from_slice : goal.returns-in_err-extend_from_slice
returns-in_err-extend_from_slice c = IfOk-from_err _ _ c.from_residual-in_err-extend_from_slice.ensures.0
